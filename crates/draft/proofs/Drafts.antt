-- A draft in hand: its program is valid, and its tables are what is written.
use Rattle.std.proofs.Common.{◌≡◌, ℕ, ◌+◌, ◌*◌, List, [], ◌∷◌, ◌++◌, length, take, drop, refl, sym, ◌∙◌, ap₂, append_assoc, arith}
use Rattle.std.proofs.lemmas.Grind.{common_steps}
use Rattle.book.specs.Program.{ProgramRule, width, Valid}
use Rattle.book.specs.Format.{two, twos, contents, encode}
use Rattle.book.proofs.Encodes.{length-encode}
use Rattle.book.proofs.Parts.{twos-append}
use Rattle.draft.specs.declared.draft.Draft.{Draft}
use Rattle.draft.specs.declared.rows.Rows.{Rows}
use Rattle.draft.specs.Filled.{filled}
use Rattle.draft.specs.Form.{form_by}
use Rattle.draft.specs.Adding.{with_rule, Addable}
use Rattle.draft.specs.Writing.{form_length, written_over}
use Rattle.draft.specs.Drafting.{form_of, drafted}
use Rattle.draft.proofs.Puts.{put_more}
use Rattle.draft.proofs.Adds.{total_push, valid_more}
use Rattle.draft.proofs.Forms.{valid_held, Held, held, form_more}

-- the program of a draft is valid
pub valid_draft : (d : Draft) → Valid (drafted d)
valid_draft d = valid_held (form_of d) d.formed.accepted

-- the length of what is written
pub length-form : (d : Draft) → form_length (drafted d) ≡ 6 + 6 * d.contents.len + 2 * d.bodies.len
unfolding form_length
length-form d = let k = d.formed.counts in omega (arith, length-encode (drafted d))

-- the rule's entry put behind the contents, and its two parts behind the bodies
pub grown : (d : Draft) (r : ProgramRule) → Addable (drafted d) r → (cs : Rows 6 256) (ls ls' : Rows 2 2048)
    → cs.len ≡ d.contents.len + 1 → filled cs ≡ filled d.contents ++ contents d.bodies.len (r ∷ [])
    → ls.len ≡ d.bodies.len + length r.positives → filled ls ≡ filled d.bodies ++ twos r.positives
    → ls'.len ≡ ls.len + length r.negatives → filled ls' ≡ filled ls ++ twos r.negatives
    → Held (with_rule (drafted d) r) d.atoms cs.len ls'.len (filled cs) (filled ls')
grown d r a cs ls ls' m c k l k' l' =
    let p = drafted d in
    let b : ls'.len ≡ d.bodies.len + width r = omega arith in
    let counts = d.formed.counts in
    let form : encode (with_rule p r) ≡ form_by d.atoms cs.len ls'.len (filled cs) (filled ls') =
    rw (c, l', l, m, b, append_assoc, ← twos-append r.positives r.negatives)
    (form_more p d.atoms d.contents.len d.bodies.len (filled d.contents) (filled d.bodies) d.formed.form counts d.contents.wide r) in
    held (with_rule p r) d.atoms cs.len ls'.len (filled cs) (filled ls') form
    (counts.0, grind (arith, common_steps), omega (arith, total_push p.rules r)) (valid_more p r (valid_draft d) a)

-- the counts and the two tables put one after the other
pub form_put : (d : Draft) (old s t u a b c : List ℕ)
    → s ≡ two d.atoms ++ (two d.contents.len ++ two d.bodies.len) → t ≡ filled d.contents → u ≡ filled d.bodies
    → a ≡ take 0 old ++ (s ++ drop (0 + length s) old)
    → b ≡ take 6 a ++ (t ++ drop (6 + length t) a)
    → c ≡ take (6 + length t) b ++ (u ++ drop (6 + length t + length u) b)
    → c ≡ written_over (drafted d) old
unfolding form_by
form_put d old s t u a b c es et eu ea eb ec =
    let n : 6 ≡ length s = rw es refl in
    let o : a ≡ s ++ drop 6 old = grind (arith, common_steps) in
    let p : b ≡ (s ++ t) ++ drop (6 + length t) old = put_more old s t a b 6 n o eb in
    let q : c ≡ ((s ++ t) ++ u) ++ drop (6 + length t + length u) old = put_more old (s ++ t) u b c (6 + length t) (grind (arith, common_steps)) p ec in
    let wt : length (filled d.contents) ≡ 6 * d.contents.len = d.contents.wide in
    let wu : length (filled d.bodies) ≡ 2 * d.bodies.len = d.bodies.wide in
    let l : 6 + length t + length u ≡ form_length (drafted d) = grind (arith, length-form d) in
    let w : s ++ (t ++ u) ≡ encode (drafted d) = rw (es, et, eu) (sym d.formed.form) in
    q ∙ ap₂ (λ v k. v ++ drop k old) (append_assoc s t u ∙ w) l
