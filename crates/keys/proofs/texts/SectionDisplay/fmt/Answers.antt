-- A name is text.
use Rattle.std.proofs.Common.{IsUtf8, sym, subst, rules}
use Rattle.keys.proofs.KeyTexts.{name_utf8}
use Rattle.keys.proofs.texts.SectionDisplay.fmt.Goals as goal

pub unwrap-name-requires : goal.unwrap-name-requires
unwrap-name-requires g c =
    let text = subst IsUtf8 (sym c.name.ensures) (name_utf8 c.args.self.now) in
    search rules
