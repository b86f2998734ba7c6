-- One rule of forward.
use Rattle.std.proofs.Common.{◌≡◌, ℕ, ◌+◌, ◌<◌, Bool, true, false, not, ◌&&◌, ◌||◌, eqb, List, length, get_or, set, sym, refl, ap, ◌∙◌, ap₂}
use Rattle.book.specs.Program.{Program, nth_rule}
use Rattle.answer.specs.Tests.{each_of, some_of}
use Rattle.answer.specs.Answer.{heads}
use Rattle.operator.specs.Page.{is_in, is_out}
use Rattle.operator.specs.Operator.{satisfied, failed, body_is_in, body_is_out, forward_to}
use Rattle.operator.specs.declared.notes.Notes.{Notes}
use Rattle.operator.specs.Notes.{Noted}
use Rattle.operator.proofs.Tables.{some_next, each_next, fill_next, flag_or, flag_and}

not-not : (x : Bool) → not (not x) ≡ x
not-not true = refl
not-not false = refl

module _ (b : Program) (p : List ℕ) (k h : ℕ) (t : Notes) (before : Noted b k t (forward_to k b p)) (head : h ≡ (nth_rule b k).head) where
  pub forward_in : (v : Bool) → h < length t.atom_in → v ≡ body_is_in b p k → (a : ℕ) → a < b.atoms
      → get_or (set t.atom_in h (get_or t.atom_in h false || v)) a false ≡ (forward_to (k + 1) b p).atom_in a
  forward_in v l e a m =
      some_next (get_or t.atom_in a false) _ (eqb a h && v) (λ r. heads b r a && body_is_in b p r) k (flag_or t.atom_in h a v l) (before.atom_in a m) (ap₂ (λ h v. eqb a h && v) head e)

  pub forward_out : (v : Bool) → h < length t.atom_out → v ≡ body_is_out b p k → (a : ℕ) → a < b.atoms
      → get_or (set t.atom_out h (get_or t.atom_out h false && v)) a false ≡ (forward_to (k + 1) b p).atom_out a
  forward_out v l e a m =
      each_next (get_or t.atom_out a false) _ (not (eqb a h) || v) (λ r. not (heads b r a) || body_is_out b p r) k (flag_and t.atom_out h a v l) (before.atom_out a m) (ap₂ (λ h v. not (eqb a h) || v) head e)

  pub forward_body_in : (v x y : Bool) (ps ns : List ℕ) → k < length t.body_in → v ≡ (x && y) → each_of (is_in p) ps ≡ x → each_of (is_out p) ns ≡ y → ps ≡ (nth_rule b k).positives → ns ≡ (nth_rule b k).negatives → (r : ℕ) → r < k + 1 → get_or (set t.body_in k v) r false ≡ satisfied p (nth_rule b r)
  forward_body_in v x y ps ns l e f g i j = fill_next (λ r. satisfied p (nth_rule b r)) t.body_in k v l before.body_in (e ∙ ap₂ ◌&&◌ (sym f ∙ ap (each_of (is_in p)) i) (sym g ∙ ap (each_of (is_out p)) j))

  pub forward_body_out : (v x y : Bool) (ps ns : List ℕ) → k < length t.body_out → v ≡ (x || y) → some_of (is_out p) ps ≡ x → some_of (is_in p) ns ≡ y → ps ≡ (nth_rule b k).positives → ns ≡ (nth_rule b k).negatives → (r : ℕ) → r < k + 1 → get_or (set t.body_out k v) r false ≡ failed p (nth_rule b r)
  forward_body_out v x y ps ns l e f g i j = fill_next (λ r. failed p (nth_rule b r)) t.body_out k v l before.body_out (e ∙ ap₂ ◌||◌ (sym f ∙ ap (some_of (is_out p)) i) (sym g ∙ ap (some_of (is_in p)) j))
