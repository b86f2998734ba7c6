-- Bytes are accepted exactly when they are the written form of a valid program, which is then the one that they hold.
use Rattle.std.proofs.Common.{◌≡◌, ℕ, ◌<◌, List, IfOk, Some, None, Ok, Err, Result, sym, ap, ◌∙◌, subst, arith, MatchResult}
use Rattle.std.specs.Result.{result_err}
use Rattle.book.specs.declared.book.Book.{Book}
use Rattle.book.specs.declared.book.rules.Rule.{Rule}
use Rattle.book.specs.declared.header.Header.{Header}
use Rattle.book.specs.declared.faults.RuleFault.{RuleFault}
use Rattle.book.specs.Program.{Program, nth_rule, ProperRule, Valid}
use Rattle.book.specs.Layout.{rules_in, head_at, positive_part, negative_part, decode}
use Rattle.book.specs.Invariant.{Limits, Long, Bytes}
use Rattle.book.specs.Diagnosis.{layout_fault}
use Rattle.book.specs.Counted.{Counted}
use Rattle.book.specs.Reading.{held, program_of, rule_of, Written, Holds, HoldsNone, DifferentForms}
use Rattle.book.proofs.Kept.{kept}
use Rattle.book.proofs.Decodes.{count-decode, rule_decode, encode-decode, valid_decode}
use Rattle.book.proofs.RoundTrip.{decode-encode, no_fault}

-- a written form has one program
pub decode_written : (p : Program) (bs : List ℕ) → Written p bs → p ≡ decode bs
decode_written p bs w = sym (decode-encode p) ∙ ap decode w.form

pub holds : (bs : List ℕ) → Bytes bs → Limits bs → Long bs → layout_fault bs ≡ None → Holds bs (decode bs)
holds bs byte limits long e =
    let k = kept bs e in
    record {
      written = record {
        valid = valid_decode bs long k.1 k.2 limits k.0 k.3 k.4;
        form = encode-decode bs long k.1 k.2 byte (omega arith);
      };
      only = λ q w. decode_written q bs w;
    }

pub holds_none : (bs : List ℕ) (f : RuleFault) → layout_fault bs ≡ Some f → HoldsNone bs
holds_none bs f e p w =
    let n : layout_fault bs ≡ None = subst (λ (cs : List ℕ). layout_fault cs ≡ None) w.form (no_fault p w.valid) in
    let z : ◌≡◌ {A = ℕ} 0 1 = cc in
    omega arith

pub judged : (r : Result Header RuleFault) (bs : List ℕ) → Bytes bs → result_err r ≡ layout_fault bs → IfOk r (λ h. h.bytes.now ≡ bs)
    → MatchResult r (λ _. Holds bs (decode bs)) (λ _. HoldsNone bs)
judged (Ok h) bs byte e g =
    let w : Counted bs h.atoms h.rules h.literals = rw g at h.counted in
    holds bs byte w.limits w.long (sym e)
judged (Err f) bs byte e g = holds_none bs f (sym e)

pub different : DifferentForms
different p q e = sym (decode-encode p) ∙ ap decode e ∙ decode-encode q

-- every book in use is valid
pub valid_book : (b : Book) → Valid (program_of b)
valid_book b =
    valid_decode b.bytes.now b.long b.places b.claimed b.limits b.heads b.literals b.ascending

-- a rule that shows its parts of the bytes is the rule of that number, and proper
pub rule_is : (b : Book) (k : ℕ) (r : Rule) → k < rules_in (held b) → r.head ≡ head_at (held b) k
    → r.positives.now ≡ positive_part (held b) k → r.negatives.now ≡ negative_part (held b) k
    → rule_of r ≡ nth_rule (program_of b) k
rule_is b k r l h p n = rw (h, p, n) (sym (rule_decode (held b) k l))

pub rule_proper : (b : Book) (k : ℕ) (r : Rule) → k < rules_in (held b) → rule_of r ≡ nth_rule (program_of b) k
    → ProperRule (program_of b).atoms (rule_of r)
rule_proper b k r l e = let c = count-decode (held b) in rw e ((valid_book b).proper k (omega arith))
