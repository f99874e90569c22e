use Rattle.std.proofs.Common.{◌≡◌, true, false, length, slice_set, ap, ◌∙◌, length-set, rules}
use Rattle.std.proofs.lemmas.Iterator.{YieldsList-from_slice, IsFirst-from_position}
use Rattle.std.proofs.lemmas.Option.{MatchOption-at_some, MatchOption-at_none}
use Rattle.std.proofs.lemmas.Result.{MatchResult-weaker}
use borrow.Author.Tests.{tests}
use Rattle.arrayvec.proofs.ArrayVecLemmas.{items-with_items}
use Rattle.layers.specs.Held.{held}
use Rattle.layers.specs.Aliases.{entry, of_program}
use Rattle.layers.proofs.AliasSteps.{alias_again, alias_more, alias_refused}
use Rattle.layers.proofs.aliases.Aliases.alias.Goals as goal

pub returns-in-Some-clause-entries : goal.returns-in-Some-clause-entries
returns-in-Some-clause-entries g c =
    let entries = held c.args.self.now.table in
    let p = c.args.program.0 in
    let q = c.args.cut_as.0 in
    let place = c.in-Some.place in
    let seen = c.deref_mut.result.now in
    let h = IsFirst-from_position _ _ c.position.result (λ x. of_program p x ≡ true) (λ x. of_program p x ≡ false) c.position.ensures.ran (YieldsList-from_slice entries cc) (λ x q k. search (rules, tests)) (λ x q k. search (rules, tests)) in
    let first = MatchOption-at_some _ _ place c.in-Some.is h in
    let put = items-with_items c.args.self.now.table (slice_set seen place (entry p q)) (length-set seen place (entry p q) ∙ ap length c.deref_mut.ensures.value) ∙ ap (λ l. slice_set l place (entry p q)) c.deref_mut.ensures.value in
    alias_again p q entries place _ first.0 first.1 first.2 put

pub returns-in-None-clause-entries : goal.returns-in-None-clause-entries
returns-in-None-clause-entries g c =
    let entries = held c.args.self.now.table in
    let p = c.args.program.0 in
    let q = c.args.cut_as.0 in
    let h = IsFirst-from_position _ _ c.position.result (λ x. of_program p x ≡ true) (λ x. of_program p x ≡ false) c.position.ensures.ran (YieldsList-from_slice entries cc) (λ x q k. search (rules, tests)) (λ x q k. search (rules, tests)) in
    let none = MatchOption-at_none _ _ c.in-None.is h in
    MatchResult-weaker c.add.result c.add.ensures (λ _ put. alias_more p q entries none (held c.add.new.table) put) (λ e full. (alias_refused p q entries none e full.0, full.1))
