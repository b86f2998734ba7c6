use Rattle.std.proofs.Common.{refl, ap, ◌∙◌}
use Rattle.std.proofs.lemmas.Bool.{eq-eqb}
use Rattle.operator.specs.Parts.{opens_only}
use Rattle.operator.proofs.backward.note_lone.Goals as goal

pub bounds-flags-atom : goal.bounds-flags-atom
bounds-flags-atom c = c.requires c.in-Lone-Satisfied.atom (ap (opens_only c.in-Lone-Satisfied.atom) c.in-Lone-Satisfied.is-0 ∙ eq-eqb c.in-Lone-Satisfied.atom c.in-Lone-Satisfied.atom refl)
