-- Forward, backward and unfounded derive what is true of every answer set that fits.
use Rattle.std.specs.Prelude.{◌≡◌, ℕ, ◌<◌, true, not, ◌&&◌, ◌||◌, List, ◌==◌, ◌≢◌, nat_eq}
use Rattle.std.proofs.Common.{sym, ◌∙◌, subst, inl, inr}
use Rattle.std.proofs.lemmas.Bool.{true≢false, and_parts, and_from, or_cases, eqb-true}
use Rattle.book.specs.Program.{Program, rule_count, nth_rule}
use Rattle.answer.specs.Tests.{some_of}
use Rattle.answer.specs.Answer.{heads, inside, outside, holds}
use Rattle.operator.specs.Page.{is_out, is_in, Lawful}
use Rattle.operator.specs.Operator.{sole, failed, last_positive, last_negative, body_is_in, body_is_out, forward_marks, forward, backward_marks, backward, usable, unfounded_marks, unfounded}
use Rattle.operator.specs.Layer.{basic, full}
use Rattle.operator.specs.Booleans.{denied, deny, stable, some_each, some_is}
use Rattle.operator.specs.Bodies.{holds_pos, pos_in, neg_out, satisfied_holds, failed_fails, last_positive_holds, last_negative_holds}
use Rattle.operator.specs.Pages.{atom_true, body_true}
use Rattle.operator.specs.Sets.{rules_apart, head_of, founded, fires, supported}
use Rattle.operator.specs.Deriving.{Given, Justified, derive_lawful}
use Rattle.operator.specs.Layers.{sequence_lawful, until_rest_lawful, lookahead_lawful}
use Rattle.answer.specs.Computed.{least_set}
use Rattle.answer.proofs.Computing.{computed}

-- what a set that fits makes of the marks
module _ (b : Program) (p s : List ℕ) (G : Given b p s) where
  atom_has : (a : ℕ) → a < b.atoms → is_in p a ≡ true → inside s a ≡ true
  atom_has a l h = sym (atom_true b s a l) ∙ G.fits.has a h

  atom_lacks : (a : ℕ) → a < b.atoms → is_out p a ≡ true → inside s a ≢ true
  atom_lacks a l h e = G.fits.lacks a h (atom_true b s a l ∙ e)

  body_has : (r : ℕ) → body_is_in b p r ≡ true → holds s (nth_rule b r) ≡ true
  body_has r h = sym (body_true b s r) ∙ G.fits.has _ h

  body_lacks : (r : ℕ) → body_is_out b p r ≡ true → holds s (nth_rule b r) ≢ true
  body_lacks r h e = G.fits.lacks _ h (body_true b s r ∙ e)

  unmade : (r : ℕ) → r < rule_count b → failed p (nth_rule b r) ≡ true → holds s (nth_rule b r) ≢ true
  unmade r l = failed_fails p s (λ a. a < b.atoms) atom_has atom_lacks (nth_rule b r) (G.valid.proper r l).positives.atoms (G.valid.proper r l).negatives.atoms

  forward_just : Justified b s (forward_marks b p)
  forward_just = record {
    atom_in = λ a l e.
        let (r, k, h) = (some_is (λ r. heads b r a && body_is_in b p r) (rule_count b)).0 e in
        let w = and_parts (heads b r a) _ h in fires b s G.answer r a k w.0 (body_has r w.1);
    atom_out = λ a l e h. rules_apart b a (λ r. holds s (nth_rule b r)) (body_is_out b p) (λ r k x y. body_lacks r y x) (supported b s G.answer a h) e;
    body_in = λ r l e. satisfied_holds p s (λ a. a < b.atoms) atom_has atom_lacks (nth_rule b r) (G.valid.proper r l).positives.atoms (G.valid.proper r l).negatives.atoms e;
    body_out = unmade;
  }

  backward_just : Justified b s (backward_marks b p)
  backward_just = record {
    atom_in = λ a l e.
        let (r, k, h) = (some_is (λ r. body_is_in b p r && some_of (nat_eq a) (nth_rule b r).positives || body_is_out b p r && last_negative p a (nth_rule b r)) (rule_count b)).0 e in
        elim (or_cases (body_is_in b p r && some_of (nat_eq a) (nth_rule b r).positives) _ h) [
          | inl w ↦ let v = and_parts (body_is_in b p r) _ w in pos_in s (nth_rule b r) a (body_has r v.0) v.1
          | inr w ↦ let v = and_parts (body_is_out b p r) _ w in stable (inside s a) (λ i. body_lacks r v.0 (last_negative_holds p s (λ a. a < b.atoms) atom_has atom_lacks (nth_rule b r) (G.valid.proper r k).positives.atoms (G.valid.proper r k).negatives.atoms a v.1 i))
        ];
    atom_out = λ a l e i.
        let (r, k, h) = (some_is (λ r. body_is_in b p r && some_of (nat_eq a) (nth_rule b r).negatives || body_is_out b p r && last_positive p a (nth_rule b r)) (rule_count b)).0 e in
        elim (or_cases (body_is_in b p r && some_of (nat_eq a) (nth_rule b r).negatives) _ h) [
          | inl w ↦ let v = and_parts (body_is_in b p r) _ w in neg_out s (nth_rule b r) a (body_has r v.0) v.1 i
          | inr w ↦ let v = and_parts (body_is_out b p r) _ w in body_lacks r v.0 (last_positive_holds p s (λ a. a < b.atoms) atom_has atom_lacks (nth_rule b r) (G.valid.proper r k).positives.atoms (G.valid.proper r k).negatives.atoms a v.1 i)
        ];
    body_in = λ r l e.
        let (a, hd, w) = head_of (λ a. is_in p a && sole b p r a) b r e in
        let c = and_parts (is_in p a) _ w in
        let v = and_parts (not (body_is_out b p r)) _ c.1 in
        stable (holds s (nth_rule b r)) (λ n. rules_apart b a (λ k. holds s (nth_rule b k)) (λ k. (k == r) || body_is_out b p k)
        (λ k m x y. elim (or_cases (k == r) _ y) [ inl z ↦ n (subst (λ j. holds s (nth_rule b j) ≡ true) (eqb-true k r z) x) | inr z ↦ body_lacks k z x ])
        (supported b s G.answer a (atom_has a ((G.valid.proper r l).head a hd) c.0)) v.1);
    body_out = λ r l e h. let (a, hd, w) = head_of (is_out p) b r e in atom_lacks a ((G.valid.proper r l).head a hd) w (fires b s G.answer r a l hd h);
  }

  -- an answer set that fits lies inside the least set of the usable rules
  reached : (a : ℕ) → inside s a ≡ true → inside (least_set b (usable b p)) a ≡ true
  reached = founded b s G.answer (inside (least_set b (usable b p))) (λ r a l hd h k.
      (computed.least b (usable b p) G.valid.proper).closed r a l hd (and_from _ _ (deny _ (λ o. body_lacks r o h)) (deny _ (λ o. unmade r l o h))) k)

  unfounded_just : Justified b s (unfounded_marks b p)
  unfounded_just = record {
    atom_in = λ a l e. absurd (true≢false (sym e));
    atom_out = λ a l e i. denied _ e (reached a i);
    body_in = λ r l e. absurd (true≢false (sym e));
    body_out = λ r l e h. some_each _ (outside (least_set b (usable b p))) (inside s) (λ x m u i. denied _ u (reached x i)) (nth_rule b r).positives (G.valid.proper r l).positives.atoms e (holds_pos s (nth_rule b r) h);
  }

pub forward_lawful : Lawful forward
forward_lawful = derive_lawful forward_marks forward_just

pub backward_lawful : Lawful backward
backward_lawful = derive_lawful backward_marks backward_just

pub unfounded_lawful : Lawful unfounded
unfounded_lawful = derive_lawful unfounded_marks unfounded_just

pub basic_lawful : Lawful basic
basic_lawful = until_rest_lawful _ (sequence_lawful _ _ forward_lawful (sequence_lawful _ _ backward_lawful unfounded_lawful))

pub full_lawful : Lawful full
full_lawful = until_rest_lawful _ (sequence_lawful _ _ basic_lawful (lookahead_lawful _ basic_lawful))
