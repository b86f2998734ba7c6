-- Chains over the atoms of a part, and arrays made by a closure.
use Rattle.std.proofs.Common.{◌≡◌, ℕ, zero, suc, ◌+◌, ◌<◌, Bool, true, false, ◌&&◌, List, [], ◌∷◌, get_or, Some, None, sym, ap, ◌∙◌, subst, add-zero, arith}
use denote.Param.Members.{Mut, Called}
use Rattle.std.specs.Array.{IsFromFnResultFrom}
use Rattle.std.specs.Iterator.{YieldsFirst, ChecksAll}
use Rattle.std.specs.List.{FoldsTo}
use Rattle.answer.specs.Tests.{each_of}
use Rattle.book.specs.declared.book.iter.Atoms.{Atoms}
use Rattle.book.specs.Handing.{atoms_left}

module _ {F : Type 0} (g : Mut F (ℕ × Unit {0}) Bool) (f : F) (t : ℕ → Bool)
    (h : (x : ℕ) (b : Bool) (q : F) → Called g f (x, tt) b q → (q ≡ f) × (b ≡ t x)) where
  -- `all` says whether every atom that is left passes the test that the closure computes
  pub all_is : (s u : Atoms) (r : Bool) → ChecksAll (YieldsFirst atoms_left) g s f r u → r ≡ each_of t (atoms_left s)
  all_is s u r ([], None, f', (m, e, y), k, a) = a ∙ ap (each_of t) (sym (ap atoms_left e ∙ y.0))
  all_is s u r ([], Some x, f', (m, e, y), k, a) =
      let b = (h x false a.1.0 (subst (λ (q : F). Called g q (x, tt) false a.1.0) (sym k) a.1.1)).1 in
      a.0 ∙ ap (λ v. v && each_of t (atoms_left u)) b ∙ ap (each_of t) (sym (ap atoms_left e ∙ y))
  all_is s u r (x ∷ xs, o, f', (m, (j, d, e), y), (q, w, k), a) =
      let b = h x true q w in
      let z = all_is j u r (xs, o, f', (m, e, y), subst (λ (p : F). FoldsTo (λ p x q. Called g p (x, tt) true q) p xs f') b.0 k, a) in
      z ∙ ap (λ v. v && each_of t (atoms_left j)) b.1 ∙ ap (each_of t) (sym d)

  -- an array made by the closure has what it computes of each index
  pub made_is : (ys : List Bool) (i n : ℕ) → IsFromFnResultFrom g f ys i n → (k : ℕ) → k < n → get_or ys (i + k) false ≡ t (i + k)
  made_is ys i zero m k l = absurd (omega arith)
  made_is ys i (suc n) (q, y, e, w, m) zero l = rw (add-zero i) (e.1 false ∙ (h i y q w).1)
  made_is ys i (suc n) (q, y, e, w, m) (suc k) l =
      let z : i + 1 + k ≡ i + suc k = omega arith in
      subst (λ (j : ℕ). get_or ys j false ≡ t j) z
      (made_is ys (i + 1) n (subst (λ (p : F). IsFromFnResultFrom g p ys (i + 1) n) (h i y q w).0 m) k (omega arith))
