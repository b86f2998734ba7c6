-- Every layer over lawful operators is lawful, and until-rest comes to rest.
use Rattle.std.specs.Prelude.{◌≡◌, ℕ, zero, suc, ◌<◌, ◌≤◌, Bool, true, false, cond, List, length, nat_lt, slice_set, refl}
use Rattle.std.proofs.Common.{sym, ◌∙◌, inl, inr, arith, lit≤}
use Rattle.std.proofs.lemmas.Bool.{cases_Bool, both_ways, eqb-true}
use Rattle.book.specs.Program.{Program, Valid}
use Rattle.answer.specs.Answer.{Answer}
use Rattle.operator.specs.Page.{object_count, Page, is_open, opens, true_in, Fits, Outcome, clash, marked, Meaning, Follows, Allowed, LawfulOn, Lawful}
use Rattle.operator.specs.Layer.{onward, settle, sequence, rest, until_rest, clashes, trial, opposite, tried, looked, lookahead, idle}
use Rattle.std.specs.Str.{bytes_eq}
use Rattle.std.proofs.lemmas.Slice.Eq.{bytes_eq-Decides}
use Rattle.operator.specs.Pages.{follows_refl, follows_then, page_set, grows_set, fits_set, opens_moved}

pub idle_lawful : Lawful idle
idle_lawful b P p G = follows_refl b p G

pub sequence_lawful : (f g : Meaning) → Lawful f → Lawful g → Lawful (sequence f g)
sequence_lawful f g F G b P p H = go (f b p) (F b P p H)
  where
    go : (o : Outcome) → Allowed b p o → Allowed b p (onward g b o)
    go clash A = A
    go (marked q) A = follows_then b p q A (g b q) (G b P q A.page)

rest_lawful : (k : ℕ) (f : Meaning) → Lawful f → Lawful (rest k f)
rest_lawful zero f L b P p H = follows_refl b p H
rest_lawful (suc k) f L b P p H = go (rest_lawful k f L b P) (f b p) (L b P p H)
  where
    go : LawfulOn b (rest k f) → (o : Outcome) → Allowed b p o → Allowed b p (settle p (rest k f b) o)
    go R clash A = A
    go R (marked q) A = elim (bytes_eq p q) as (λ v. Allowed b p (elim v [ true ↦ marked q | false ↦ rest k f b q ])) [ true ↦ A | false ↦ follows_then b p q A (rest k f b q) (R q A.page) ]

pub until_rest_lawful : (f : Meaning) → Lawful f → Lawful (until_rest f)
until_rest_lawful f L b P p H = rest_lawful (suc (opens (object_count b) p)) f L b P p H

-- one more mark that every answer set that fits agrees with
follows_set : (b : Program) (p : List ℕ) (i v : ℕ) → i < length p → Page b p → v ≤ 2 → is_open p i ≡ true → ((s : List ℕ) → Answer b s → Fits b p s → Fits b (slice_set p i v) s) → Follows b p (slice_set p i v)
follows_set b p i v l G w o S = record { page = page_set b p i v G w; growth = grows_set p i v (eqb-true _ _ o); sound = S }

turned : (b : Program) (p : List ℕ) (i : ℕ) → i < length p → Page b p → is_open p i ≡ true → (c : Bool) → Allowed b (slice_set p i (cond c 1 2)) clash → Follows b p (slice_set p i (cond c 2 1))
turned b p i l G o true C = follows_set b p i 2 l G (lit≤ tt) o (λ s A F. fits_set b p i 2 l s F (λ _. elim (cases_Bool (true_in b s i)) [ inl e ↦ e | inr e ↦ absurd (C s A (fits_set b p i 1 l s F (λ k. absurd (omega arith)) (λ _. both_ways _ e))) ]) (λ k. absurd (omega arith)))
turned b p i l G o false C = follows_set b p i 1 l G (lit≤ tt) o (λ s A F. fits_set b p i 1 l s F (λ k. absurd (omega arith)) (λ _ e. C s A (fits_set b p i 2 l s F (λ _. e) (λ k. absurd (omega arith)))))

pub tried_follows : (f : Meaning) → Lawful f → (b : Program) (i : ℕ) (p : List ℕ) → Valid b → Page b p → i < object_count b → Follows b p (tried f b i p)
tried_follows f L b i p P G l = go (is_open p i) refl (f b (slice_set p i (trial b i))) (L b P (slice_set p i (trial b i)) (page_set b p i (trial b i) G (small (nat_lt i b.atoms))))
  where
    small : (c : Bool) → cond c 1 2 ≤ 2
    small true = lit≤ tt
    small false = lit≤ tt

    go : (c : Bool) → is_open p i ≡ c → (o : Outcome) → Allowed b (slice_set p i (trial b i)) o → Follows b p (elim c [ false ↦ p | true ↦ elim (clashes o) [ true ↦ slice_set p i (opposite b i) | false ↦ p ] ])
    go false e o A = follows_refl b p G
    go true e clash A = turned b p i (rw G.long l) G e (nat_lt i b.atoms) A
    go true e (marked q) A = follows_refl b p G

pub looked_follows : (f : Meaning) → Lawful f → (b : Program) (p : List ℕ) → Valid b → Page b p → (k : ℕ) → k ≤ object_count b → Follows b p (looked k f b p)
looked_follows f L b p P G zero l = follows_refl b p G
looked_follows f L b p P G (suc k) l =
    let H = looked_follows f L b p P G k (omega arith) in
    follows_then b p (looked k f b p) H (marked (tried f b k (looked k f b p))) (tried_follows f L b k (looked k f b p) P H.page l)

pub lookahead_lawful : (f : Meaning) → Lawful f → Lawful (lookahead f)
lookahead_lawful f L b P p G = looked_follows f L b p P G (object_count b) (omega arith)

-- the fuel suffices: the page that until-rest gives is at rest

pub settle_same : (p q : List ℕ) (more : List ℕ → Outcome) → bytes_eq p q ≡ true → settle p more (marked q) ≡ marked q
settle_same p q more e = rw (e, settle) refl

pub settle_moved : (p q : List ℕ) (more : List ℕ → Outcome) → bytes_eq p q ≡ false → settle p more (marked q) ≡ more q
settle_moved p q more e = rw (e, settle) refl

pub falls : (b : Program) (p q : List ℕ) → Page b p → Follows b p q → bytes_eq p q ≡ false → opens (object_count b) q < opens (object_count b) p
falls b p q G A = opens_moved (object_count b) p q G.long A.page.long A.growth

rest_rests : (f : Meaning) → Lawful f → (b : Program) → Valid b → (k : ℕ) (p q : List ℕ) → Page b p → opens (object_count b) p < k → rest k f b p ≡ marked q → f b q ≡ marked q
rest_rests f L b P zero p q G l e = absurd (omega arith)
rest_rests f L b P (suc k) p q G l e = go (rest_rests f L b P k) (f b p) refl (L b P p G) e
  where
    go : ((p q : List ℕ) → Page b p → opens (object_count b) p < k → rest k f b p ≡ marked q → f b q ≡ marked q) → (o : Outcome) → f b p ≡ o → Allowed b p o → settle p (rest k f b) o ≡ marked q → f b q ≡ marked q
    go R clash w A h = let z : ◌≡◌ {A = ℕ} 0 1 = cc in absurd (omega arith)
    go R (marked r) w A h = elim (cases_Bool (bytes_eq p r)) [
      | inl m ↦ let u = (bytes_eq-Decides p r).0 m in let v = settle_same p r (rest k f b) m in cc
      | inr m ↦ let u = falls b p r G A m in R r q A.page (omega arith) (sym (settle_moved p r (rest k f b) m) ∙ h)
    ]

pub until_rest_rests : (f : Meaning) → Lawful f → (b : Program) (p q : List ℕ) → Valid b → Page b p → until_rest f b p ≡ marked q → f b q ≡ marked q
until_rest_rests f L b p q P G e = rest_rests f L b P (suc (opens (object_count b) p)) p q G (omega arith) e
