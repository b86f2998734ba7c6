-- Forward, backward and unfounded: what each derives from the marks before the call. Assumes nothing.
use Rattle.std.specs.Prelude.{ℕ, ◌+◌, Bool, true, false, cond, not, ◌&&◌, ◌||◌, List, map, ◌==◌, nat_eq}
use Rattle.std.specs.List.{range_with_len}
use Rattle.book.specs.Program.{ProgramRule, Program, rule_count, nth_rule, headed}
use Rattle.answer.specs.Tests.{each_of, some_of, each_below, some_below, how_many}
use Rattle.answer.specs.Answer.{heads, outside}
use Rattle.answer.specs.Computed.{least_set}
use Rattle.operator.specs.Page.{object_count, is_open, is_out, is_in, object, Outcome, clash, marked, Meaning}

-- what an operator derives: the atoms and the bodies that get a mark
pub record Derived : Type 0 where
  pub atom_in : ℕ → Bool
  pub atom_out : ℕ → Bool
  pub body_in : ℕ → Bool
  pub body_out : ℕ → Bool

-- an object gets the mark that it has and the marks that are derived
abbrev pub gets_in : Program → List ℕ → Derived → ℕ → Bool
gets_in b p d i = is_in p i || object b d.atom_in d.body_in i

abbrev pub gets_out : Program → List ℕ → Derived → ℕ → Bool
gets_out b p d i = is_out p i || object b d.atom_out d.body_out i

abbrev pub gets : Program → List ℕ → Derived → ℕ → ℕ
gets b p d i = cond (gets_in b p d i) 2 (cond (gets_out b p d i) 1 0)

-- all marks at the same time, and a clash when an object would get both
abbrev pub marks_of : Program → List ℕ → Derived → Outcome
marks_of b p d = elim (some_below (λ i. gets_in b p d i && gets_out b p d i) (object_count b)) [ true ↦ clash | false ↦ marked (map (gets b p d) (range_with_len 0 (object_count b))) ]

abbrev pub derive : (Program → List ℕ → Derived) → Meaning
derive d b p = marks_of b p (d b p)

-- a body and the marks of its atoms: all its literals are satisfied; some literal fails
abbrev pub satisfied : List ℕ → ProgramRule → Bool
satisfied p r = each_of (is_in p) r.positives && each_of (is_out p) r.negatives

abbrev pub failed : List ℕ → ProgramRule → Bool
failed p r = some_of (is_out p) r.positives || some_of (is_in p) r.negatives

-- in a part whose literals are satisfied by t, the open atom a stands, and all other literals are satisfied
abbrev pub only_open : (ℕ → Bool) → List ℕ → ℕ → List ℕ → Bool
only_open t p a xs = is_open p a && some_of (nat_eq a) xs && each_of (λ x. (a == x) || t x) xs

-- all literals of the body are satisfied but one, which is open: a among the positive atoms, or among the negative ones
abbrev pub last_positive : List ℕ → ℕ → ProgramRule → Bool
last_positive p a r = only_open (is_in p) p a r.positives && each_of (is_out p) r.negatives

abbrev pub last_negative : List ℕ → ℕ → ProgramRule → Bool
last_negative p a r = only_open (is_out p) p a r.negatives && each_of (is_in p) r.positives

-- the mark of the body of rule r
abbrev pub body_is_in : Program → List ℕ → ℕ → Bool
body_is_in b p r = is_in p (b.atoms + r)

abbrev pub body_is_out : Program → List ℕ → ℕ → Bool
body_is_out b p r = is_out p (b.atoms + r)

-- forward, with the first k rules: a body from its atoms, an atom from the bodies of its rules
abbrev pub forward_to : ℕ → Program → List ℕ → Derived
forward_to k b p = record {
  atom_in = λ a. some_below (λ r. heads b r a && body_is_in b p r) k;
  atom_out = λ a. each_below (λ r. not (heads b r a) || body_is_out b p r) k;
  body_in = λ r. satisfied p (nth_rule b r);
  body_out = λ r. failed p (nth_rule b r);
}

abbrev pub forward_marks : Program → List ℕ → Derived
forward_marks b = forward_to (rule_count b) b

abbrev pub forward : Meaning
forward = derive forward_marks

-- the body of rule r is the only one of its atom that is not out
abbrev pub sole : Program → List ℕ → ℕ → ℕ → Bool
sole b p r a = not (body_is_out b p r) && each_below (λ k. not (heads b k a) || (k == r || body_is_out b p k)) (rule_count b)

-- how many of the first k rules of the atom have a body that is not out
unfoldable pub live : Program → List ℕ → ℕ → ℕ → ℕ
live b p a k = how_many (λ r. heads b r a && not (body_is_out b p r)) k

-- backward, with the first k rules: the atoms of a body from its mark, a body from its head
abbrev pub backward_to : ℕ → Program → List ℕ → Derived
backward_to k b p = record {
  atom_in = λ a. some_below (λ r. body_is_in b p r && some_of (nat_eq a) (nth_rule b r).positives || body_is_out b p r && last_negative p a (nth_rule b r)) k;
  atom_out = λ a. some_below (λ r. body_is_in b p r && some_of (nat_eq a) (nth_rule b r).negatives || body_is_out b p r && last_positive p a (nth_rule b r)) k;
  body_in = λ r. headed (λ a. is_in p a && sole b p r a) (nth_rule b r);
  body_out = λ r. headed (is_out p) (nth_rule b r);
}

abbrev pub backward_marks : Program → List ℕ → Derived
backward_marks b = backward_to (rule_count b) b

abbrev pub backward : Meaning
backward = derive backward_marks

-- the rules with the body not out, no positive atom out and no negative atom in
abbrev pub usable : Program → List ℕ → ℕ → Bool
usable b p r = not (body_is_out b p r) && not (failed p (nth_rule b r))

-- unfounded: what a set leaves outside, the set being the smallest that is closed under the usable rules
abbrev pub outside_of : Program → List ℕ → Derived
outside_of b s = record {
  atom_in = λ a. false;
  atom_out = outside s;
  body_in = λ r. false;
  body_out = λ r. some_of (outside s) (nth_rule b r).positives;
}

abbrev pub unfounded_marks : Program → List ℕ → Derived
unfounded_marks b p = outside_of b (least_set b (usable b p))

abbrev pub unfounded : Meaning
unfounded = derive unfounded_marks
