-- A walk started over.
use Rattle.std.proofs.Common.{◌≡◌, ℕ, ◌+◌, ◌≤◌, List, [], ◌++◌, length, take, drop, replicate, None, sym, ap, ap₂, ◌∙◌, arith}
use Rattle.std.proofs.Math.Seq.{take-append-add}
use Rattle.std.proofs.lemmas.List.{length-take-le, take-replicate, drop-replicate, replicate-append-replicate}
use Rattle.book.specs.Program.{Program, rule_count, Valid}
use Rattle.operator.specs.Page.{object_count}
use Rattle.inquiry.specs.Cursor.{Cursor}
use Rattle.inquiry.specs.Walk.{at}
use Rattle.inquiry.specs.Calls.{State as States, fresh, opening}
use Rattle.inquiry.specs.View.{view, at_start}

abbrev state_at : Cursor → List ℕ → List ℕ → States
state_at c w p = record { cursor = c; wishes = w; walk = at p [] }

-- the first wishes, as many as the book has atoms, and nothing marked after them
pub fresh_view : (b : Program) (c : Cursor) (w : List ℕ) (k : ℕ) → Valid b → k ≡ b.atoms → 128 ≤ length w
    → state_at c (take b.atoms w) (take (object_count b) (take k w ++ drop k (replicate 384 0))) ≡ fresh b c (take b.atoms w)
fresh_view b c w k V e l =
    let n = b.atoms in
    let few = V.limited.atoms in
    let low = V.limited.rules in
    rw e (ap (state_at c (take n w))
    (ap (λ i. take (i + rule_count b) (take n w ++ drop n (replicate 384 0))) (sym (length-take-le n w (omega arith)))
    ∙ take-append-add (take n w) (drop n (replicate 384 0)) (rule_count b)
    ∙ ap (λ r. take n w ++ r) (rw drop-replicate (take-replicate (rule_count b) _ 0 (omega arith)))))

start_at : (n m i k : ℕ) → n ≤ i → n + m ≤ k → state_at None (take n (replicate i 0)) (take (n + m) (replicate k 0)) ≡ state_at None (replicate n 0) (replicate n 0 ++ replicate m 0)
start_at n m i k h l = ap₂ (state_at None) (take-replicate n i 0 h) (take-replicate (n + m) k 0 l ∙ sym (replicate-append-replicate n m 0))

pub start_view : (b : Program) → Valid b → view b at_start ≡ opening b
start_view b V = let few = V.limited.atoms in let low = V.limited.rules in start_at b.atoms (rule_count b) 128 384 (omega arith) (omega arith)
