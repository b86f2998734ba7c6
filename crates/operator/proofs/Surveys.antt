-- The loop over the literals of a part.
use Rattle.std.proofs.Common.{◌≡◌, ℕ, ◌<◌, true, false, ◌&&◌, ◌||◌, eqb, List, [], ◌∷◌, ◌++◌, sym, refl, ◌∙◌, inl, inr, arith, lit<}
use Rattle.std.proofs.lemmas.Bool.{and_right, and_from, and_parts, or_left, or_right, or_from, eq-eqb, ne_eqb, eqb-true, cases_eq, both_ways, or_cases}
use Rattle.answer.specs.Tests.{each_of, some_of}
use Rattle.operator.specs.Operator.{only_open}
use Rattle.answer.proofs.Tests.{untrue, each_mono}
use Rattle.operator.specs.Marks.{met}
use Rattle.operator.specs.Parts.{meeting, failing, satisfies, fails, opens_only, joined_by}
use Rattle.operator.specs.declared.part.Sign.{Sign}
use Rattle.operator.specs.declared.part.Sign.TheVariants.{Positive, Negative}
use Rattle.operator.specs.declared.part.Part.{Part}
use Rattle.operator.specs.declared.part.Part.TheVariants.{Failed, Satisfied, Lone, Open}
use Rattle.operator.proofs.Literals.{each_last, some_last, each_at, both_at}

abbrev pub Shape : List ℕ → ℕ → List ℕ → Part → Type 0
Shape p w xs Failed = ⊥
Shape p w xs Satisfied = each_of (met p w) xs ≡ true
Shape p w xs (Lone c) = (met p 0 c ≡ true) × (some_of (eqb c) xs ≡ true) × (each_of (λ x. eqb c x || met p w x) xs ≡ true)
Shape p w xs Open = (a : ℕ) → each_of (λ x. eqb a x || met p w x) xs ≡ false

-- the literals of these atoms make the part stand so, and none of them fails
abbrev pub Seen : List ℕ → ℕ → ℕ → List ℕ → Part → Type 0
Seen p w g xs s = (some_of (met p g) xs ≡ false) × Shape p w xs s

-- how a part stands, in the words of a contract
abbrev pub Told : List ℕ → ℕ → ℕ → List ℕ → Part → Type 0
Told p w g xs s =
    (each_of (met p w) xs ≡ satisfies s) × (some_of (met p g) xs ≡ fails s) × ((a : ℕ) → only_open (met p w) p a xs ≡ opens_only a s)

module _ (p : List ℕ) (w g : ℕ) where
  -- an atom with one mark does not have another
  apart : (x v u : ℕ) → met p v x ≡ true → v < u → met p u x ≡ false
  apart x v u o l = ne_eqb _ _ (λ e. let z = eqb-true _ _ o in absurd (omega arith))

  -- one literal more, which is satisfied
  pub seen_met : (xs : List ℕ) (x : ℕ) (s : Part) → Seen p w g xs s → met p w x ≡ true → met p g x ≡ false → Seen p w g (xs ++ x ∷ []) s
  seen_met xs x s h m n = (some_last _ xs x ∙ or_from _ _ n h.0, go s h.1)
    where
      go : (s : Part) → Shape p w xs s → Shape p w (xs ++ x ∷ []) s
      go Failed k = k
      go Satisfied k = each_last _ xs x ∙ and_from _ _ m k
      go (Lone c) k = (k.0, some_last _ xs x ∙ or_right _ _ k.1, each_last _ xs x ∙ and_from _ _ (or_right _ _ m) k.2)
      go Open k = λ a. each_last _ xs x ∙ and_right _ _ (k a)

  -- one literal more, whose atom is open
  pub seen_open : (xs : List ℕ) (x : ℕ) (s : Part) → Seen p w g xs s → 0 < w → 0 < g → met p 0 x ≡ true → Seen p w g (xs ++ x ∷ []) (joined_by s x)
  seen_open xs x s h l k o = (some_last _ xs x ∙ or_from _ _ (apart x 0 g o k) h.0, go s h.1)
    where
      go : (s : Part) → Shape p w xs s → Shape p w (xs ++ x ∷ []) (joined_by s x)
      go Failed k = k
      go Satisfied k =
          let e = or_left _ _ (eq-eqb x x refl) in
          (o, some_last _ xs x ∙ or_left _ _ (eq-eqb x x refl), each_last _ xs x ∙ and_from _ _ e (each_mono _ _ (λ y q. or_right _ _ q) xs k))
      go (Lone c) k =
          elim (cases_eq c x) [
            | inl e ↦ rw (eq-eqb c x e) (k.0, some_last _ xs x ∙ or_right _ _ k.1, each_last _ xs x ∙ and_from _ _ (or_left _ _ (eq-eqb c x e)) k.2)
            | inr e ↦ rw (ne_eqb c x e) (λ a. each_last _ xs x ∙ two e a)
          ]
        where
          two : (c ≡ x → ⊥) → (a : ℕ) → ((eqb a x || met p w x) && each_of (λ y. eqb a y || met p w y) xs) ≡ false
          two e a =
              untrue _ (λ q.
              let u = and_parts (eqb a x || met p w x) _ q in
              elim (or_cases (eqb a x) (met p w x) u.0) [
                | inr z ↦ both_ways _ (apart x 0 w o l) z
                | inl z ↦
                    elim (or_cases (eqb a c) (met p w c) (each_at (λ y. eqb a y || met p w y) c xs u.1 k.1)) [
                      | inl y ↦ e (sym (eqb-true a c y) ∙ eqb-true a x z)
                      | inr y ↦ both_ways _ (apart c 0 w k.0 l) y
                    ]
              ])
      go Open k = λ a. each_last _ xs x ∙ and_right _ _ (k a)

  -- a part of which a literal fails
  pub seen_failed : (xs : List ℕ) → 0 < g → (w ≡ g → ⊥) → some_of (met p g) xs ≡ true → Told p w g xs Failed
  seen_failed xs l d e = (
    untrue _ (λ q.
        let (x, m, n) = both_at (met p w) (met p g) xs q e in let y = eqb-true _ _ m in let z = eqb-true _ _ n in d (sym y ∙ z)),
    e,
    λ a.
        untrue _ (λ q.
        let u = and_parts (met p 0 a && some_of (eqb a) xs) _ q in
        let v = and_parts (met p 0 a) _ u.0 in
        let (x, m, n) = both_at (λ y. eqb a y || met p w y) (met p g) xs u.1 e in
        elim (or_cases (eqb a x) (met p w x) m) [
          | inl z ↦ both_ways _ (apart a 0 g v.0 l) (rw (eqb-true a x z) n)
          | inr z ↦ let y = eqb-true _ _ z in let b = eqb-true _ _ n in d (sym y ∙ b)
        ]),
  )

  -- a part of which all literals were seen
  pub seen_all : (xs : List ℕ) (s : Part) → Seen p w g xs s → 0 < w → Told p w g xs s
  seen_all xs Failed h l = absurd h.1
  seen_all xs Satisfied h l = (
    h.1,
    h.0,
    λ a.
        untrue _ (λ q.
        let u = and_parts (met p 0 a && some_of (eqb a) xs) _ q in
        let v = and_parts (met p 0 a) _ u.0 in
        both_ways _ (apart a 0 w v.0 l) (each_at (met p w) a xs h.1 v.1)),
  )
  seen_all xs (Lone c) h l =
      let m = apart c 0 w h.1.0 l in (
        untrue _ (λ q. both_ways _ m (each_at (met p w) c xs q h.1.1)),
        h.0,
        λ a.
            elim (cases_eq a c) [
              | inl e ↦ rw (eq-eqb a c e, e) (and_from _ _ (and_from _ _ h.1.0 h.1.1) h.1.2)
              | inr e ↦
                  rw (ne_eqb a c e)
                  (and_right (met p 0 a && some_of (eqb a) xs) _ (untrue _ (λ q.
                  elim (or_cases (eqb a c) (met p w c) (each_at (λ y. eqb a y || met p w y) c xs q h.1.1)) [
                    | inl z ↦ e (eqb-true a c z)
                    | inr z ↦ both_ways _ m z
                  ])))
            ],
      )
  seen_all xs Open h l = (
    untrue _ (λ q. both_ways _ (h.1 0) (each_mono _ _ (λ y z. or_right _ _ z) xs q)),
    h.0,
    λ a. and_right (met p 0 a && some_of (eqb a) xs) _ (h.1 a),
  )

-- the marks by which literals of a sign are satisfied and fail
pub above : (s : Sign) → (0 < meeting s) × (0 < failing s)
above Positive = (lit< tt, lit< tt)
above Negative = (lit< tt, lit< tt)

pub differ : (s : Sign) → meeting s ≡ failing s → ⊥
differ Positive e = omega arith
differ Negative e = omega arith
