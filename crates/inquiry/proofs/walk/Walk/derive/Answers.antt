use Rattle.std.proofs.Common.{◌+◌, ◌∙◌, ap₂, rules}
use Rattle.book.specs.Reading.{program_of}
use Rattle.inquiry.proofs.Faults.{accepted, no_page_fault}
use Rattle.inquiry.proofs.walk.Walk.derive.Goals as goal

pub unwrap-requires : goal.unwrap-requires
unwrap-requires g c =
    accepted _ (c.apply.ensures.declines ∙ no_page_fault (program_of c.args.book.now) c.args.self.now.page _ (ap₂ ◌+◌ c.atoms.ensures.atoms c.rules.ensures) (search rules) c.requires)
