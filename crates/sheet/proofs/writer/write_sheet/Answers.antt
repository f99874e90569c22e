use Rattle.capability.specs.Copied.{copied}
use Rattle.sheet.proofs.SheetSteps.{answered}
use Rattle.sheet.proofs.writer.write_sheet.Goals as goal

pub returns : goal.returns
returns g c =
    answered c.args.area.now c.write.result c.write.new.area (copied c.of.result) (g.S.Source.meaning c.args.source.now) c.of.ensures c.write.ensures
