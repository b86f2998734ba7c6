-- The sheet of a page, and the marks of its atoms: the code has k of them, as many as the book has atoms, cut from its page p.
use Rattle.std.proofs.Common.{◌≡◌, ℕ, ◌<◌, ◌≤◌, Bool, true, false, cond, eqb, List, length, get_or, take, Some, None, Option, Decides, sym, refl, ap, subst, ◌∙◌, inl, inr, zero-add, arith}
use Rattle.std.proofs.lemmas.Bool.{false≢true}
use Rattle.std.proofs.lemmas.List.{get_or-take, length-take-le}
use Rattle.std.proofs.lemmas.List.FromFn.{length-map-range_with_len, get_or-map-range_with_len, fill_by_all}
use Rattle.book.specs.Program.{Program}
use Rattle.answer.specs.Answer.{Sheet, Answer}
use Rattle.answer.specs.Tests.{bit}
use Rattle.answer.specs.Computed.{sheet_by}
use Rattle.answer.proofs.Sheets.{by_sheet}
use Rattle.operator.specs.Page.{object_count, is_in}
use Rattle.inquiry.specs.Cursor.{Cursor, Behind, Lowest, Full, sheet_of}
use Rattle.inquiry.specs.declared.judge.Turn.TheVariants.{Retreat, Choose, Hand}
use Rattle.inquiry.specs.View.{cursor_of}
use Rattle.inquiry.specs.Turns.{Judged}

-- a page with the same first n marks is as far behind
behind_same : (n : ℕ) (p q : List ℕ) → ((i : ℕ) → i < n → get_or p i 0 ≡ get_or q i 0) → (c : Cursor) → Behind n p c → Behind n q c
behind_same n p q e None h = h
behind_same n p q e (Some c) (inl d) = let a = d.atom in let o = d.out in inl (record { at = d.at; atom = a; same = λ i l. sym (e i (omega arith)) ∙ d.same i l; out = sym (e d.at a) ∙ o; one = d.one })
behind_same n p q e (Some c) (inr m) = inr (λ i l. sym (e i l) ∙ m i l)

module _ (b : Program) (p : List ℕ) (k : ℕ) (e : k ≡ b.atoms) (h : k ≤ length p) where
  long : length (take k p) ≡ b.atoms
  long = length-take-le k p h ∙ e

  same : (i : ℕ) → i < b.atoms → get_or (take k p) i 0 ≡ get_or (take (object_count b) p) i 0
  same i l = get_or-take k p i 0 (omega arith) ∙ sym (get_or-take (object_count b) p i 0 (omega arith))

  full_page : Full (length (take k p)) (take k p) → Full b.atoms (take (object_count b) p)
  full_page f i l = let x = same i l in let y = f i (rw long l) in omega arith

  not_behind : (c : Option (List ℕ)) → Decides false (Behind (length (take k p)) (take k p) (cursor_of (length (take k p)) c)) → Behind b.atoms (take (object_count b) p) (cursor_of b.atoms c) → ⊥
  not_behind c d x = false≢true (d.1 (rw long (behind_same b.atoms (take (object_count b) p) (take k p) (λ i l. sym (same i l)) (cursor_of b.atoms c) x)))

  -- the sheet that the code made of the marks is that of the page
  pub page_sheet : (s : List ℕ) → take (length (take k p)) s ≡ sheet_by (length (take k p)) (is_in (take k p)) → take k s ≡ sheet_of b (take (object_count b) p)
  page_sheet s m =
      ap (λ i. take i s) (sym (length-take-le k p h)) ∙ m ∙ rw long (fill_by_all (λ a. bit (is_in (take (object_count b) p) a)) _ b.atoms 0 (length-map-range_with_len _ 0 b.atoms)
      (λ i l. get_or-map-range_with_len (λ a. bit (is_in (take k p) a)) 0 b.atoms i i 0 l (zero-add i) ∙ ap (λ v. bit (eqb v 2)) (same i l)))

  pub front_sheet : (s : List ℕ) → take (length (take k p)) s ≡ sheet_by (length (take k p)) (is_in (take k p)) → Sheet b.atoms (take k s)
  front_sheet s m = subst (Sheet b.atoms) (sym (page_sheet s m)) (by_sheet b.atoms (is_in (take (object_count b) p)))

  pub judged_open : (c : Option (List ℕ)) (a : ℕ) → Decides false (Behind (length (take k p)) (take k p) (cursor_of (length (take k p)) c)) → Lowest (length (take k p)) (take k p) a
      → Judged b (cursor_of b.atoms c) (take (object_count b) p) (Choose a)
  judged_open c a d f =
      let l : a < b.atoms = rw long at f.atom in
      (not_behind c d, record { atom = l; free = sym (same a l) ∙ f.free; before = λ i m. let x = same i (omega arith) in let y = f.before i m in omega arith })

  pub judged_full : (c : Option (List ℕ)) (s : List ℕ) → Decides false (Behind (length (take k p)) (take k p) (cursor_of (length (take k p)) c)) → Full (length (take k p)) (take k p)
      → take (length (take k p)) s ≡ sheet_by (length (take k p)) (is_in (take k p)) → (v : Bool) → Decides v (Answer b (take k s)) → Judged b (cursor_of b.atoms c) (take (object_count b) p) (cond v Hand Retreat)
  judged_full c s d f m true t = (not_behind c d, full_page f, subst (Answer b) (page_sheet s m) (t.0 refl))
  judged_full c s d f m false t = inr (not_behind c d, full_page f, λ a. false≢true (t.1 (subst (Answer b) (sym (page_sheet s m)) a)))
