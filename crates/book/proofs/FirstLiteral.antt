-- The first literal that breaks a condition.
use Rattle.std.proofs.Common.{◌≡◌, ℕ, ◌+◌, ◌<◌, ◌≤◌, List, Some, None, ap}
use Rattle.std.specs.Option.{option_map}
use Rattle.book.specs.declared.refusal.Refusal.{Refusal}
use Rattle.book.specs.Refusal.{in_rule}
use Rattle.book.specs.First.{first}
use Rattle.book.specs.Layout.{atoms_in, literals_in, head_at, place_at, count_at, claimed_below}
use Rattle.book.specs.Diagnosis.{entries_fault, entry_fault, literal_fault, body_fault}
use Rattle.book.proofs.Entries.{entry_none}
use Rattle.book.proofs.Firsts.{first_found, first_none, mapped_none}

pub entry_sound : (bs : List ℕ) (k m : ℕ) → k < m → entries_fault bs m ≡ None
    → (head_at bs k < atoms_in bs) × (place_at bs k ≡ claimed_below bs k) × (place_at bs k + count_at bs k ≤ literals_in bs)
entry_sound bs k m h e =
    entry_none (atoms_in bs) (literals_in bs) (claimed_below bs k) k (head_at bs k) (place_at bs k) (count_at bs k)
    (mapped_none (in_rule k) (entry_fault bs k) (first_none (λ j. option_map (in_rule j) (entry_fault bs j)) k m h e))

pub body_none : (bs : List ℕ) (k i : ℕ) → i ≡ count_at bs k → first (literal_fault bs k) i ≡ None → body_fault bs k ≡ None
body_none bs k i e h = ap (option_map (in_rule k)) (rw e at h)

pub body_found : (bs : List ℕ) (k i : ℕ) (f : Refusal)
    → i < count_at bs k → first (literal_fault bs k) i ≡ None → literal_fault bs k i ≡ Some f → body_fault bs k ≡ Some (in_rule k f)
body_found bs k i f h n e = ap (option_map (in_rule k)) (first_found (literal_fault bs k) f i (count_at bs k) h n e)
