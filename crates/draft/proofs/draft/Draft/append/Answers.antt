use Rattle.std.proofs.Common.{arith}
use Rattle.std.proofs.lemmas.Bool.Decides.{nat_tests}
use Rattle.draft.specs.Adding.{with_rule}
use Rattle.draft.specs.NewRule.{given}
use Rattle.draft.specs.Filled.{filled}
use Rattle.draft.specs.Drafting.{drafted}
use Rattle.draft.proofs.Forms.{Held}
use Rattle.draft.proofs.Drafts.{grown}
use Rattle.draft.proofs.draft.Draft.append.Goals as goal
use Rattle.draft.proofs.draft.Draft.append.Goals.{After-push_atoms-2, at-returns}

pub entry-entry-requires-clause-head : goal.entry-entry-requires-clause-head
entry-entry-requires-clause-head c = grind (arith, nat_tests, c.requires.proper.head c.args.rule.now.head)

-- the tables then hold the program with the rule
tables : (c : After-push_atoms-2)
    → Held (with_rule (drafted c.args.self.now) (given c.args.rule.now)) c.args.self.now.atoms c.push.new.self.len c.push_atoms-2.new.self.len (filled c.push.new.self) (filled c.push_atoms-2.new.self)
tables c =
    grown c.args.self.now (given c.args.rule.now) c.requires c.push.new.self c.push_atoms.new.self c.push_atoms-2.new.self
    c.push.ensures.len (rw (c.entry-entry.ensures, c.literals.ensures) at c.push.ensures.bytes)
    c.push_atoms.ensures.len c.push_atoms.ensures.bytes c.push_atoms-2.ensures.len c.push_atoms-2.ensures.bytes

pub invariant_of-self : goal.invariant_of-self
invariant_of-self c = record { limited = c.args.self.now.limited; formed = (tables c).formed }

pub returns : goal.returns
returns c = (tables (at-returns c).After-push_atoms-2).reads
