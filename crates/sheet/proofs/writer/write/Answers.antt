use Rattle.std.proofs.Common.{◌≡◌, ◌≤◌, sym, refl, ◌∙◌, subst}
use Rattle.sheet.proofs.SheetSteps.{without_room, with_room, wrote}
use Rattle.sheet.proofs.writer.write.Goals as goal

pub returns-then-area-needed : goal.returns-then-area-needed
returns-then-area-needed c = (
  without_room c.args.abilities.now c.mills.result c.mills.ensures _ c.if-mills-eq0.false c.sheet_len-needed.result c.sheet_len-needed.ensures.value c.if-area-needed.true,
  refl,
)

pub returns : goal.returns
returns c =
    let abilities = c.args.abilities.now in
    let area = c.args.area.now in
    let same : c.sheet_len-needed.result ≡ c.put_sheet.result = c.sheet_len-needed.ensures.value ∙ sym c.put_sheet.ensures.long in (
      with_room abilities c.mills.result c.mills.ensures _ c.if-mills-eq0.false c.sheet_len-needed.result c.sheet_len-needed.ensures.value c.if-area-needed.false,
      wrote abilities c.mills.result c.mills.ensures 0 c.if-mills-eq0.false c.put_sheet.result c.put_sheet.ensures.long area c.put_sheet.new.area
          (subst (λ n. n ≤ 35088) same c.sheet_len-needed.ensures.short) c.put_sheet.ensures.text,
    )
