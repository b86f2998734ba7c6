-- The turns of until-rest.
use Rattle.std.proofs.Common.{◌≡◌, ℕ, zero, suc, ◌<◌, false, List, sym, refl, ◌∙◌, inl, inr, arith}
use Rattle.std.specs.Str.{bytes_eq}
use Rattle.std.proofs.lemmas.Bool.{cases_Bool}
use Rattle.book.specs.Program.{Program, Valid}
use Rattle.book.specs.declared.book.Book.{Book}
use Rattle.book.specs.Reading.{program_of}
use Rattle.book.proofs.Holding.{valid_book}
use Rattle.operator.specs.Page.{object_count, Page, opens, Outcome, clash, marked, Meaning, Follows, Allowed, Lawful}
use Rattle.operator.specs.Layer.{settle, rest, until_rest}
use Rattle.operator.specs.Layers.{settle_same, settle_moved, falls}

-- more applications than there are open marks make no difference
rest_fuel : (f : Meaning) → Lawful f → (b : Program) → Valid b → (j k : ℕ) (p : List ℕ) → Page b p
    → opens (object_count b) p < j → opens (object_count b) p < k → rest j f b p ≡ rest k f b p
rest_fuel f L b V zero k p G l m = absurd (omega arith)
rest_fuel f L b V (suc j) zero p G l m = absurd (omega arith)
rest_fuel f L b V (suc j) (suc k) p G l m = go (rest_fuel f L b V j k) (f b p) (L b V p G)
  where
    go : ((p : List ℕ) → Page b p → opens (object_count b) p < j → opens (object_count b) p < k → rest j f b p ≡ rest k f b p)
        → (o : Outcome) → Allowed b p o → settle p (rest j f b) o ≡ settle p (rest k f b) o
    go R clash A = refl
    go R (marked q) A = elim (cases_Bool (bytes_eq p q)) [
      | inl e ↦ settle_same p q (rest j f b) e ∙ sym (settle_same p q (rest k f b) e)
      | inr e ↦
          let u = falls b p q G A e in
          settle_moved p q (rest j f b) e ∙ R q A.page (omega arith) (omega arith) ∙ sym (settle_moved p q (rest k f b) e)
    ]

-- a turn that altered the page
module _ (f : Meaning) (L : Lawful f) (k : Book) (p q : List ℕ) (G : Page (program_of k) p) (m : f (program_of k) p ≡ marked q)
    (n : bytes_eq p q ≡ false) where
  follows : Follows (program_of k) p q
  follows = rw m at (L (program_of k) (valid_book k) p G)

  pub turn_falls : opens (object_count (program_of k)) q < opens (object_count (program_of k)) p
  turn_falls = falls (program_of k) p q G follows n

  pub turn_moves : until_rest f (program_of k) q ≡ until_rest f (program_of k) p
  turn_moves =
      let b : Program = program_of k in
      let l = turn_falls in
      rest_fuel f L b (valid_book k) (suc (opens (object_count b) q)) (opens (object_count b) p) q follows.page (omega arith) l
      ∙ sym (rw m (settle_moved p q (rest (opens (object_count b) p) f b) n))
