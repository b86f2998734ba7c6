-- The written form that the tables of a draft hold: what follows from it, and what keeps it.
use Rattle.std.proofs.Common.{◌≡◌, ℕ, ◌+◌, ◌*◌, ◌≤◌, List, [], ◌∷◌, ◌++◌, length, take, drop, None, sym, refl, ap, ◌∙◌, arith}
use Rattle.std.specs.Option.{option_map}
use Rattle.std.proofs.lemmas.List.{length_push, take_at, append_cancel_left}
use Rattle.std.proofs.lemmas.Grind.{common_steps}
use Rattle.std.proofs.lemmas.Bool.Decides.{nat_tests}
use Rattle.book.specs.Program.{ProgramRule, Program, width, total, Valid, no_rules}
use Rattle.book.specs.Format.{twos, body, flat, contents, encode}
use Rattle.book.specs.Layout.{decode}
use Rattle.book.specs.Refusal.{in_book}
use Rattle.book.specs.Invariant.{Limits, Long, Bytes}
use Rattle.book.specs.Diagnosis.{layout_fault}
use Rattle.book.proofs.Kept.{kept}
use Rattle.book.proofs.Encodes.{length-contents}
use Rattle.book.proofs.Parts.{twos-append}
use Rattle.book.proofs.Decodes.{valid_decode}
use Rattle.book.proofs.RoundTrip.{decode-encode, no_fault}
use Rattle.book.proofs.Holding.{holds, decode_written}
use Rattle.draft.specs.Form.{form_by, Counting, Formed}
use Rattle.draft.specs.Adding.{with_rule}
use Rattle.draft.specs.Writing.{ReadBack, OneForm}
use Rattle.draft.proofs.Adds.{total_push}

-- bytes without a fault hold a valid program, and are its written form
module _ (bs : List ℕ) (e : layout_fault bs ≡ None) where
  limits : Limits bs × Long bs
  limits = grind (arith, nat_tests)

  pub valid_held : Valid (decode bs)
  valid_held =
      let k = kept bs e in valid_decode bs limits.1 k.1 k.2 limits.0 k.0 k.3 k.4

  form_held : Bytes bs → encode (decode bs) ≡ bs
  form_held byte = (holds bs byte limits.0 limits.1 e).written.form

-- a valid program is read back
pub read_back : (p : Program) → Valid p → ReadBack p
read_back p v =
    record {
      accepted = ap (option_map in_book) (no_fault p v);
      same = decode-encode p;
      holds = record { written = record { valid = v; form = refl }; only = λ q w. decode_written q (encode p) w ∙ decode-encode p };
    }

-- a program has one written form
pub one_form : (p : Program) → OneForm p
one_form p bs byte e d = sym (form_held bs (grind (arith, nat_tests)) byte) ∙ ap encode d

-- the tables of a draft hold a program: they keep what a draft keeps, and it is read back from them
pub record Held (p : Program) (n m b : ℕ) (cs ls : List ℕ) : Type 0 where
  pub formed : Formed (form_by n m b cs ls) n m b
  pub reads : decode (form_by n m b cs ls) ≡ p

pub held : (p : Program) (n m b : ℕ) (cs ls : List ℕ) → encode p ≡ form_by n m b cs ls → Counting p n m b → Valid p
    → Held p n m b cs ls
held p n m b cs ls e k v =
    let reads : decode (form_by n m b cs ls) ≡ p = sym (ap decode e) ∙ decode-encode p in
    record {
      formed = record {
        counts = rw reads k;
        accepted = ap layout_fault (sym e) ∙ no_fault p v;
        form = ap encode reads ∙ e;
      };
      reads = reads;
    }

-- empty tables hold a program without rules
pub none_held : (n m b : ℕ) (cs ls : List ℕ) → n ≤ 128 → m ≡ 0 → b ≡ 0 → cs ≡ [] → ls ≡ [] → Held (no_rules n) n m b cs ls
unfolding form_by
none_held n m b cs ls h x y z w =
    held (no_rules n) n m b cs ls (rw (x, y, z, w)) (refl, x, y)
    (record { proper = λ k l. absurd (omega arith); limited = record { atoms = h; rules = omega arith; literals = omega arith } })

-- the contents and the bodies of one rule more
contents_push : (s : ℕ) (rs : List ProgramRule) (r : ProgramRule) → contents s (rs ++ (r ∷ [])) ≡ contents s rs ++ contents (s + total rs) (r ∷ [])
contents_push s [] r = grind (arith, common_steps)
contents_push s (x ∷ rs) r = grind (arith, common_steps, contents_push (s + width x) rs r)

bodies_push : (rs : List ProgramRule) (r : ProgramRule) → twos (flat (rs ++ (r ∷ []))) ≡ twos (flat rs) ++ twos (body r)
bodies_push rs r = grind (arith, common_steps, twos-append)

module _ (p : Program) (n m b : ℕ) (cs ls : List ℕ) (e : encode p ≡ form_by n m b cs ls) (k : Counting p n m b) (c : length cs ≡ 6 * m) where
  -- the tables hold the contents and the bodies
  tables : (contents 0 p.rules ≡ cs) × (twos (flat p.rules) ≡ ls)
  unfolding form_by
  tables =
      let u : contents 0 p.rules ++ twos (flat p.rules) ≡ cs ++ ls = ap (drop 6) e in
      let x : length (contents 0 p.rules) ≡ length cs = omega (arith, length-contents 0 p.rules) in
      let a : contents 0 p.rules ≡ cs = sym (take_at (contents 0 p.rules) (twos (flat p.rules)) (length cs) x) ∙ ap (take (length cs)) u ∙ take_at cs ls (length cs) refl in
      (a, append_cancel_left cs _ _ (rw a at u))

  -- one rule more, where its entry and its body are put behind the others
  pub form_more : (r : ProgramRule) → encode (with_rule p r) ≡ form_by n (m + 1) (b + width r) (cs ++ contents b (r ∷ [])) (ls ++ twos (body r))
  unfolding form_by
  form_more r =
      let s : 0 + total p.rules ≡ b = omega arith in
      let f : p.atoms ≡ n = omega arith in
      let g : length (p.rules ++ (r ∷ [])) ≡ m + 1 = omega (arith, length_push p.rules r) in
      let h : total (p.rules ++ (r ∷ [])) ≡ b + width r = omega (arith, total_push p.rules r) in
      rw (f, g, h, contents_push 0 p.rules r, bodies_push p.rules r, s, tables.0, tables.1)
