-- What bytes put over others leave.
use Rattle.std.proofs.Common.{◌≡◌, ℕ, ◌+◌, ◌≤◌, List, ◌++◌, length, take, drop, refl, sym, append_assoc}
use Rattle.std.proofs.Math.Seq.{paste}
use Rattle.std.proofs.lemmas.List.Edits.{paste-paste}
use Rattle.std.proofs.lemmas.List.{take_at, drop_at, drop-drop}

-- two parts put one after the other are one part
pub put-put : (d s t : List ℕ) (i j n m : ℕ) → j ≡ i + n → n ≡ length s → m ≡ length t → i ≤ length d
    → paste (paste d i s n) j t m ≡ paste d i (s ++ t) (n + m)
put-put d s t i j n m e x y l = rw e (paste-paste d i s t n m x y l)

-- a part put behind what stands in the first bytes stands there with it
pub put_more : (d s t a b : List ℕ) (i : ℕ) → i ≡ length s → a ≡ s ++ drop i d → b ≡ take i a ++ (t ++ drop (i + length t) a)
    → b ≡ (s ++ t) ++ drop (i + length t) d
put_more d s t a b i n e h =
    let rest = drop (length s) d in
    rw (h, e, n, take_at s rest (length s) refl, ← drop-drop (length t) (length s) (s ++ rest), drop_at s rest (length s) refl, drop-drop (length t) (length s) d)
    (sym (append_assoc s t (drop (length s + length t) d)))
