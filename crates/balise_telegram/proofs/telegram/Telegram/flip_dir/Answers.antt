use Rattle.std.proofs.Common.{sym}
use Rattle.balise_layout.specs.Setting.{turned}
use Rattle.balise_telegram.proofs.PackedFields.{absent}
use Rattle.balise_telegram.proofs.PackedPlaces.{not_located}
use Rattle.balise_telegram.proofs.telegram.Telegram.flip_dir.Goals as goal

pub returns-in_default : goal.returns-in_default
returns-in_default c = absent c.args.tag turned c.args.self.now (not_located c.args.tag 50 c.args.self.now.packets (sym c.in_default.ensures.place))
