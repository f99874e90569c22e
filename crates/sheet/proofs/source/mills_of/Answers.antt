use Rattle.std.proofs.Common.{arith, ◌≤◌, length, sym, ◌∙◌, rules}
use Rattle.std.proofs.lemmas.Bool.{eqb-true, eqb-false}
use Rattle.sheet.proofs.EntrySteps.{sheet_long, at_first, nothing_listed, entry_at, at_next, entry_long, entry_mills, entry_past}
use Rattle.sheet.proofs.source.mills_of.Goals as goal
use Rattle.sheet.proofs.source.mills_of.Goals.{else-loop-rest-test, then-loop-rest-test+else-eq+then-entry-program}

pub slice_bounds-rest-count : goal.slice_bounds-rest-count
slice_bounds-rest-count c = sheet_long c.args.text.now c.requires c.args.program.0 (search rules)

pub slice_bounds-rest-start : goal.slice_bounds-rest-start
slice_bounds-rest-start c =
    let long : 9 ≤ length c.args.text.now = sheet_long c.args.text.now c.requires c.args.program.0 (search rules) in
    search rules

pub loop-rest-init : goal.loop-rest-init
loop-rest-init c = at_first c.args.text.now c.requires c.args.program.0 (search rules)

pub front_entry-requires : goal.front_entry-requires
front_entry-requires c =
    entry_long _ c.args.program.0 c.loop-rest.rest.now
    (entry_at c.args.text.now c.requires c.args.program.0 (search rules) c.loop-rest.rest.now c.loop-rest.invariant.1 (sym c.byte_at.ensures ∙ c.loop-rest-test.true ∙ c.from.ensures))

pub loop-rest-preserved : goal.loop-rest-preserved
loop-rest-preserved c =
    at_next c.args.text.now c.requires c.args.program.0 (search rules) c.loop-rest.rest.now c.loop-rest.invariant.1 (sym c.byte_at.ensures ∙ c.loop-rest-test.true ∙ c.from.ensures)
    c.front_entry.result.0 c.front_entry.result.1.now c.front_entry.ensures (omega (arith, eqb-false _ _ (sym c.eq.ensures ∙ c.if-eq.false)))

pub returns-then-eq : goal.returns-then-eq
returns-then-eq c =
    entry_mills _ c.args.program.0 c.loop-rest.rest.now
    (entry_at c.args.text.now c.requires c.args.program.0 (search rules) c.loop-rest.rest.now c.loop-rest.invariant.1 (sym c.byte_at.ensures ∙ c.loop-rest-test.true ∙ c.from.ensures))
    c.front_entry.result.0 c.front_entry.result.1.now c.front_entry.ensures (eqb-true _ _ (sym c.eq.ensures ∙ c.if-eq.true))

pub returns : goal.returns
returns c =
    let text = c.args.text.now in
    let rest = c.loop-rest.rest.now in
    elim c.loop-rest-test.branch [
      | else-loop-rest-test w ↦ sym (nothing_listed text c.requires c.args.program.0 (search rules) rest c.loop-rest.invariant.1 (λ two. w.loop-rest-test.false (c.byte_at.ensures ∙ two ∙ sym c.from.ensures)))
      | then-loop-rest-test+else-eq+then-entry-program w ↦
          sym
          (entry_past _ c.args.program.0 rest (entry_at text c.requires c.args.program.0 (search rules) rest c.loop-rest.invariant.1 (sym c.byte_at.ensures ∙ w.loop-rest-test.true ∙ c.from.ensures)) w.front_entry.result.0 w.front_entry.result.1.now w.front_entry.ensures w.if-entry-program.true)
    ]
