-- A name is ASCII, so its octets are UTF-8 and `unwrap` doesn't fail.
use Rattle.radio_core.proofs.NameTexts.{IsUtf8-name, ok_where}
use Rattle.std.proofs.Common.{IsUtf8, subst, sym}
use Rattle.radio_core.proofs.names.Name.as_str.Goals as goal

pub unwrap-requires : goal.unwrap-requires
unwrap-requires c = ok_where (IsUtf8 c.get.result.now) _ _ c.from_utf8.result c.from_utf8.ensures.cases (subst IsUtf8 (sym c.get.ensures.same) (IsUtf8-name c.args.self.now c.get.ensures.name))
