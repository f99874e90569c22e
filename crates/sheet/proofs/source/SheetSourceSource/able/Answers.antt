use Rattle.std.proofs.Common.{sym, ap, ◌∙◌, arith}
use Rattle.sets.specs.Sets.{member}
use Rattle.sheet.specs.Sheets.{sheet_of, meaning_of}
use Rattle.sheet.proofs.EntrySteps.{some_mill, no_mill_lem}
use Rattle.sheet.proofs.MillLaws.{able_member}
use Rattle.sheet.proofs.source.SheetSourceSource.able.Goals as goal

pub returns-then-self-eq0 : goal.returns-then-self-eq0
returns-then-self-eq0 c =
    let source = c.args.self.now in
    sym (no_mill_lem (meaning_of (sheet_of source.text.now)) source.keeps_law (omega (arith, source.counted)) c.args.program.0 c.args.mill.0)

pub mills_of-requires : goal.mills_of-requires
mills_of-requires c = let source = c.args.self.now in some_mill (sheet_of source.text.now) (omega (arith, source.counted))

pub returns : goal.returns
returns c =
    let source = c.args.self.now in
    c.lists.ensures
    ∙ ap (member c.args.mill.0) c.mills_of.ensures
    ∙ able_member (meaning_of (sheet_of source.text.now)) source.keeps_law c.args.program.0 c.args.mill.0
