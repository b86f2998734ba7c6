-- What a loop over the rules of a book knows at each of them.
use Rattle.std.proofs.Common.{◌≡◌, ℕ, ◌+◌, ◌<◌, ◌≤◌, List, [], ◌∷◌, ◌++◌, ap, Some, None, length, get_or, refl, sym, ◌∙◌, subst, inl, inr, arith}
use Rattle.std.specs.List.{AllByRecursion}
use Rattle.std.proofs.lemmas.List.{get_or_past, append-nil}
use Rattle.std.proofs.lemmas.Bool.{eq-eqb, cases_lt}
use Rattle.std.proofs.ByRecursion.{All-get_or}
use Rattle.book.specs.declared.book.Book.{Book}
use Rattle.book.specs.declared.book.rules.Rule.{Rule}
use Rattle.book.specs.declared.book.iter.Rules.{Rules}
use Rattle.book.specs.Program.{rule_count, nth_rule, ProperRule}
use Rattle.book.specs.Layout.{words}
use Rattle.book.specs.Reading.{program_of, rule_of}
use Rattle.std.specs.Iterator.{Yields, YieldsFirst}
use Rattle.book.specs.declared.book.iter.Atoms.{Atoms}
use Rattle.book.specs.Handing.{IsRule, HandsOut, AtRule, atoms_left}
use Rattle.book.proofs.Holding.{valid_book}

-- the rule handed out is that of the number, and the next one follows
pub handed : (b : Book) (s t : Rules) (k : ℕ) (x : Rule) → AtRule b s k → HandsOut s (Some x) t → IsRule b k x × AtRule b t (k + 1)
handed b s t k x a h =
    let i : IsRule b k x = subst (λ (j : ℕ). IsRule b j x) a.next (subst (λ (o : Book). IsRule o s.next x) a.book h.1.0) in
    let e = h.1.1 in
    let n = a.next in
    let w = i.within in
    (i, record { book = h.0 ∙ a.book; next = omega arith; within = omega arith })

-- no rule is handed out where all were
pub none_handed : (b : Book) (s t : Rules) (k : ℕ) → AtRule b s k → HandsOut s None t → k ≡ rule_count (program_of b)
none_handed b s t k a h =
    let n = a.next in
    let w = a.within in
    let l : rule_count (program_of b) ≤ s.next = subst (λ (o : Book). rule_count (program_of o) ≤ s.next) a.book h.1.0 in
    omega arith

-- numbers below n read at any place are below a bound that is no smaller
pub all_below : (n m : ℕ) (xs : List ℕ) → n ≤ m → 0 < m → AllByRecursion (λ a. a < n) xs → (i : ℕ) → get_or xs i 0 < m
all_below n m xs l z h i =
    elim (cases_lt i (length xs)) [
      | inl k ↦ let e = All-get_or (λ a. a < n) xs i 0 k h in omega arith
      | inr k ↦ let e = get_or_past xs i 0 k in omega arith
    ]

-- a proper rule of the number is the rule of the number
pub rule_by : (b : Book) (k : ℕ) (x : Rule) → k < rule_count (program_of b) → rule_of x ≡ nth_rule (program_of b) k
    → ProperRule (program_of b).atoms (rule_of x) → IsRule b k x
rule_by b k x l e p =
    let v = (valid_book b).limited in
    let h = p.head x.head (eq-eqb _ _ refl) in
    record {
      within = l;
      rule = e;
      proper = p;
      head = h;
      positives = all_below _ _ (words x.positives.now) (omega arith) (omega arith) p.positives.atoms;
      negatives = all_below _ _ (words x.negatives.now) (omega arith) (omega arith) p.negatives.atoms;
      few_atoms = v.atoms;
      few_rules = v.rules;
    }

-- the atoms of a part are those handed out and those that are left
pub yields_left : (s t : Atoms) (xs : List ℕ) → Yields (YieldsFirst atoms_left) s xs t → atoms_left s ≡ xs ++ atoms_left t
yields_left s t [] h = ap atoms_left h
yields_left s t (x ∷ xs) (j, e, h) = e ∙ ap (λ ys. x ∷ ys) (yields_left j t xs h)

-- at an atom the part is the atoms before it, itself, and those that are left; at the end the part is the atoms handed out
pub part_at : (ws : List ℕ) (s t u : Atoms) (xs : List ℕ) (x : ℕ) → atoms_left s ≡ ws → Yields (YieldsFirst atoms_left) s xs t
    → atoms_left t ≡ x ∷ atoms_left u → ws ≡ xs ++ x ∷ atoms_left u
part_at ws s t u xs x e h f = sym e ∙ yields_left s t xs h ∙ ap (λ ys. xs ++ ys) f

pub part_whole : (ws : List ℕ) (s t : Atoms) (xs : List ℕ) → atoms_left s ≡ ws → Yields (YieldsFirst atoms_left) s xs t
    → atoms_left t ≡ [] → xs ≡ ws
part_whole ws s t xs e h f = sym (append-nil xs) ∙ ap (λ ys. xs ++ ys) (sym f) ∙ sym (yields_left s t xs h) ∙ e
