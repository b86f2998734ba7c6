-- What comes of a page that the operator made, and of a step and a run of steps, over the code's walks. Assumes nothing.
use Rattle.std.specs.Prelude.{◌≡◌, ℕ, ◌<◌, Bool, true, false, ◌⊎◌, List, ◌∷◌, length, take, Option, MatchOption, slice_set}
use Rattle.book.specs.Program.{Program}
use Rattle.answer.specs.Answer.{Answer}
use Rattle.operator.specs.declared.operator.Verdict.{Verdict}
use Rattle.operator.specs.Page.{object_count, Meaning}
use Rattle.operator.specs.Apply.{Answers}
use Rattle.inquiry.specs.Cursor.{Cursor, Behind, Lowest, Full, sheet_of}
use Rattle.inquiry.specs.Walk.{out, level, at, retreat, Walk as Walks, Move, found, went, Step, Finding, Run, Shaped}
use Rattle.inquiry.specs.declared.judge.Turn.{Turn}
use Rattle.inquiry.specs.declared.judge.Turn.TheVariants.{Retreat, Choose, Hand}
use Rattle.inquiry.specs.declared.walk.Side.TheVariants.{Out, In}
use Rattle.inquiry.specs.declared.walk.Level.{Level}
use Rattle.inquiry.specs.declared.walk.Walk.{Walk}
use Rattle.inquiry.specs.View.{level_at, levels_of, walk_of}

-- what is to be done at a page: retreat, choose an atom or hand out the sheet
abbrev pub Judged : Program → Cursor → List ℕ → Turn → Type 0
Judged b c q Retreat = Behind b.atoms q c ⊎ ((Behind b.atoms q c → ⊥) × Full b.atoms q × (Answer b (sheet_of b q) → ⊥))
Judged b c q (Choose a) = (Behind b.atoms q c → ⊥) × Lowest b.atoms q a
Judged b c q Hand = (Behind b.atoms q c → ⊥) × Full b.atoms q × Answer b (sheet_of b q)

-- the step's move, by whether it found a sheet: that of the page it leaves
abbrev pub move_of : Program → List ℕ → Walks → Bool → Move
move_of b q w true = found (sheet_of b q) w
move_of b q w false = went w

-- the page of a walk, with as many marks as the book has objects
abbrev pub page_of : Program → Walk → List ℕ
page_of b w = take (object_count b) w.page

-- the operator was applied to the page of v, and w has the page after it
abbrev pub Derives : Meaning → Program → Walk → Verdict → Walk → Type 0
Derives f b v r w = Answers (f b (page_of b v)) (page_of b v) r (page_of b w)

-- every level tries in, or d is the latest that tries out
abbrev pub LatestOut : List Level → Option ℕ → Type 0
LatestOut t r = MatchOption r ((k : ℕ) → k < length t → (level_at t k).side ≡ In)
    (λ d. (d < length t) × ((level_at t d).side ≡ Out) × ((k : ℕ) → d < k → k < length t → (level_at t k).side ≡ In))

-- w is v after a retreat from d levels, or a choice: whatever the number of marks
abbrev pub Retreats : Walk → ℕ → Walk → Type 0
Retreats v d w = (z : ℕ) → walk_of z w ≡ retreat (levels_of z v.levels d)

abbrev pub Chooses : Walk → ℕ → ℕ → Walk → Type 0
Chooses v d a w = (z : ℕ) → walk_of z w ≡ at (slice_set (take z v.page) a 1) (level out a (take z v.page) ∷ levels_of z v.levels d)

-- one step from d levels, and at most so many steps
abbrev pub Stepped : Meaning → Program → Cursor → Walk → ℕ → Bool → Walk → Type 0
Stepped f b c v d r w = Step f b c (page_of b v) (levels_of (object_count b) v.levels d) (move_of b (page_of b w) (walk_of (object_count b) w) r)

abbrev pub Ran : Meaning → Program → Cursor → Walk → ℕ → Finding → ℕ → Walk → Type 0
Ran f b c v k x n w = Run f b c k (walk_of (object_count b) v) x n (walk_of (object_count b) w)

-- the walk has its shape
abbrev pub InShape : Program → Walk → Type 0
InShape b w = ∥ Shaped b (walk_of (object_count b) w) ∥₁
