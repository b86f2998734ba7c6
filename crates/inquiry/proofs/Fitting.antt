-- What a set that fits a page has in common with it.
use Rattle.std.proofs.Common.{◌≡◌, ℕ, ◌+◌, ◌<◌, List, get_or, set, sym, ◌∙◌, inl, inr, arith}
use Rattle.std.proofs.lemmas.List.{ext_get_or}
use Rattle.std.proofs.lemmas.Bool.{cases_eq, eqb-true, eq-eqb}
use Rattle.book.specs.Program.{Program}
use Rattle.answer.specs.Answer.{Sheet}
use Rattle.answer.proofs.Sheets.{by_is, by_sheet}
use Rattle.operator.specs.Page.{Page, is_in, Fits}
use Rattle.operator.specs.Pages.{atom_true, fits_set}
use Rattle.inquiry.specs.Cursor.{Marks, Full, sheet_of}
use Rattle.inquiry.proofs.Cursors.{Values}

-- a set that fits has each marked atom as the page marks it
pub fit_values : (b : Program) (p x : List ℕ) → Page b p → Sheet b.atoms x → Fits b p x → Values b.atoms p x
fit_values b p x hp hx h a l m =
    let v = hx.marks a in let u = hp.marks a in
    elim (cases_eq (get_or p a 0) 2) [
      | inl e ↦ let r = eqb-true _ _ (sym (atom_true b x a l) ∙ h.has a (eq-eqb _ _ e)) in omega arith
      | inr e ↦ elim (cases_eq (get_or x a 0) 1) [
        | inl z ↦ absurd (h.lacks a (eq-eqb _ _ (omega arith)) (atom_true b x a l ∙ eq-eqb _ _ z))
        | inr z ↦ omega arith
      ]
    ]

-- a set that fits the page fits it with one more atom marked as the set has it
pub fits_atom : (b : Program) (q x : List ℕ) (a v : ℕ) → Page b q → a < b.atoms → Fits b q x → get_or x a 0 + 1 ≡ v → Fits b (set q a v) x
fits_atom b q x a v hq l f e = fits_set b q a v (let u = hq.long in omega arith) x f
    (λ z. atom_true b x a l ∙ eq-eqb _ _ (omega arith))
    (λ z t. let w = eqb-true _ _ (sym (atom_true b x a l) ∙ t) in omega arith)

-- a page with no open atom marks each atom as its sheet has it
pub full_marks : (b : Program) (q : List ℕ) → Page b q → Full b.atoms q → Marks b.atoms q (sheet_of b q)
full_marks b q hq fu i l =
    let m = hq.marks i in let k = fu i l in let t = (by_sheet b.atoms (is_in q)).marks i in let e = by_is b.atoms (is_in q) i l in
    elim (cases_eq (get_or q i 0) 2) [
      | inl z ↦ let w = eqb-true _ _ (e ∙ eq-eqb _ _ z) in omega arith
      | inr z ↦ elim (cases_eq (get_or (sheet_of b q) i 0) 1) [ inl y ↦ absurd (z (eqb-true _ _ (sym e ∙ eq-eqb _ _ y))) | inr y ↦ omega arith ]
    ]

-- only its sheet fits it
pub same_sheet : (b : Program) (q x : List ℕ) → Page b q → Full b.atoms q → Sheet b.atoms x → Fits b q x → sheet_of b q ≡ x
same_sheet b q x hq fu hx f = let sh = by_sheet b.atoms (is_in q) in ext_get_or 0 (sheet_of b q) x (sh.long ∙ sym hx.long) (λ i h.
    let l : i < b.atoms = rw sh.long at h in let m = full_marks b q hq fu i l in let v = fit_values b q x hq hx f i l (fu i l) in omega arith)
