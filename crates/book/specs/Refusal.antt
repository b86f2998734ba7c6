-- The numbers of refusals, and how a fault is carried from a field to its rule and to its book. Assumes nothing.
use Rattle.std.specs.Prelude.{◌≡◌, ℕ, List, ◌++◌, Some, None, codes, decimal}
use Rattle.book.specs.declared.refusal.Cause.{Cause}
use Rattle.book.specs.declared.refusal.Cause.TheVariants.{Short, Limit, BookLength, Head, Place, Count, Unclaimed, Range, Order, Full, Buffer, Allowance, Value, Length}
use Rattle.book.specs.declared.refusal.Refusal.{Refusal}
use Rattle.book.specs.declared.faults.Layer.{Layer}
use Rattle.book.specs.declared.faults.Layer.TheVariants.{Header, Contents, Bodies}
use Rattle.book.specs.declared.faults.RuleFault.{RuleFault}
use Rattle.book.specs.declared.faults.BookFault.{BookFault}

-- the number of a cause
abbrev pub cause_number : Cause → ℕ
cause_number Short = 1
cause_number Limit = 2
cause_number BookLength = 3
cause_number Head = 4
cause_number Place = 5
cause_number Count = 6
cause_number Unclaimed = 7
cause_number Range = 8
cause_number Order = 9
cause_number Full = 10
cause_number Buffer = 11
cause_number Allowance = 12
cause_number Value = 13
cause_number Length = 14

-- a refusal with its number, which has to be that of its cause
abbrev pub refuse : (number : ℕ) (c : Cause) → cause_number c ≡ number → ℕ → Refusal
refuse number c e p = record { cause = c; place = p }

-- the layer of a book in which a cause is found; the causes that reading never gives go with the last
abbrev pub cause_layer : Cause → Layer
cause_layer Short = Header
cause_layer Limit = Header
cause_layer BookLength = Header
cause_layer Head = Contents
cause_layer Place = Contents
cause_layer Count = Contents
cause_layer Unclaimed = Contents
cause_layer Range = Bodies
cause_layer Order = Bodies
cause_layer Full = Bodies
cause_layer Buffer = Bodies
cause_layer Allowance = Bodies
cause_layer Value = Bodies
cause_layer Length = Bodies

abbrev pub layer_number : Layer → ℕ
layer_number Header = 1
layer_number Contents = 2
layer_number Bodies = 3

-- a field's fault in no rule, in rule k, and a rule's fault in its book
abbrev pub in_no_rule : Refusal → RuleFault
in_no_rule f = record { rule = None; field = f }

abbrev pub in_rule : ℕ → Refusal → RuleFault
in_rule k f = record { rule = Some k; field = f }

abbrev pub in_book : RuleFault → BookFault
in_book f = record { layer = cause_layer f.field.cause; fault = f }

-- the line that a declined book is reported by: layer, cause and byte
abbrev pub fault_line : BookFault → List ℕ
fault_line f =
    codes "fault " ++ (decimal (layer_number f.layer) ++ (codes " " ++ (decimal (cause_number f.fault.field.cause) ++ (codes " " ++ decimal f.fault.field.place))))

-- the line that a refusal is reported by: cause and place
abbrev pub refusal_line : Refusal → List ℕ
refusal_line r = codes "fault " ++ (decimal (cause_number r.cause) ++ (codes " " ++ decimal r.place))
