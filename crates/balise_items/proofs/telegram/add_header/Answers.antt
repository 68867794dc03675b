use Rattle.std.proofs.Common.{◌∙◌, sym}
use Rattle.balise_items.proofs.HeaderValues.{header_fits}
use Rattle.balise_items.proofs.telegram.add_header.Goals as goal

pub write_values-requires : goal.write_values-requires
write_values-requires c = header_fits c.values-values.result.now (sym c.header_misfit.ensures.first ∙ c.in_default.is)
