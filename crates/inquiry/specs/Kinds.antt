-- The kinds of a reply of next, their numbers, and what a reply of a kind writes. Assumes nothing.
use Rattle.std.specs.Prelude.{◌≡◌, ℕ, zero, suc, List, drop}
use Rattle.inquiry.specs.Walk.{Finding, sheet, none, paused}
use Rattle.inquiry.specs.declared.kind.Kind.{Kind}
use Rattle.inquiry.specs.declared.kind.Kind.TheVariants.{Sheet, NoneLeft, Paused}

-- the number of a kind, and the finding that a number stands for: 1 a sheet, 2 that there is none, 3 a pause
abbrev pub kind_number : Kind → ℕ
kind_number Sheet = 1
kind_number NoneLeft = 2
kind_number Paused = 3

abbrev pub finding_of : ℕ → List ℕ → Finding
finding_of zero x = paused
finding_of (suc zero) x = sheet x
finding_of (suc (suc zero)) x = none
finding_of (suc (suc (suc k))) x = paused

-- what is found, of a kind and with a sheet if it is of that kind
abbrev pub finding : Kind → List ℕ → Finding
finding k x = finding_of (kind_number k) x

-- only a sheet writes, and only the first n bytes
abbrev pub Written : ℕ → List ℕ → List ℕ → Kind → Type 0
Written n old new Sheet = drop n new ≡ drop n old
Written n old new NoneLeft = new ≡ old
Written n old new Paused = new ≡ old
