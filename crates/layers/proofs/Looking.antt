-- The trials of lookahead.
use Rattle.std.proofs.Common.{◌≡◌, ℕ, ◌+◌, ◌<◌, Bool, true, false, cond, List, length, get_or, set, ap, ◌∙◌, add-one, arith}
use Rattle.std.proofs.lemmas.Bool.{eq-eqb}
use Rattle.book.specs.Program.{Program}
use Rattle.book.specs.declared.book.Book.{Book}
use Rattle.book.specs.Reading.{program_of}
use Rattle.book.proofs.Holding.{valid_book}
use Rattle.operator.specs.Page.{Page, Meaning, Lawful}
use Rattle.operator.specs.Layer.{clashes, trial, opposite, tried, looked}
use Rattle.operator.specs.Layers.{looked_follows}

-- on a page of the book that was looked at below i a page of the book was left
pub looked_page : (f : Meaning) → Lawful f → (k : Book) (i : ℕ) (s p : List ℕ) → Page (program_of k) s → i < length s
    → p ≡ looked i f (program_of k) s → Page (program_of k) p
looked_page f L k i s p G h e = rw e (looked_follows f L (program_of k) s (valid_book k) G i (omega (arith, G.long))).page

-- the open object i was tried
tried_is : (h : Meaning) (b : Program) (i : ℕ) (p q : List ℕ) (v : Bool) → get_or p i 0 ≡ 0
    → v ≡ clashes (h b (set p i (trial b i))) → q ≡ cond v (set p i (opposite b i)) p → q ≡ tried h b i p
tried_is h b i p q true z v e = rw (eq-eqb _ _ z, ← v, tried) e
tried_is h b i p q false z v e = rw (eq-eqb _ _ z, ← v, tried) e

-- one object more
pub looked_more : (h f : Meaning) (b : Program) (i : ℕ) (s p q : List ℕ) (v : Bool) → h ≡ f → p ≡ looked i f b s → get_or p i 0 ≡ 0
    → v ≡ clashes (h b (set p i (trial b i))) → q ≡ cond v (set p i (opposite b i)) p → q ≡ looked (i + 1) f b s
looked_more h f b i s p q v e k z c t =
    rw add-one (tried_is h b i p q v z c t ∙ ap (λ x. tried x b i p) e ∙ ap (tried f b i) k)
