use Rattle.std.proofs.Common.{◌++◌, ◌≤◌, drop, replicate, Ok, refl, sym, ap, ◌∙◌, subst, arith}
use Rattle.wire.specs.Replies.{moves_told, reply_text}
use Rattle.console.specs.Commands.{LineBy}
use Rattle.console.specs.States.{state_of, below}
use Rattle.console.proofs.ReplyRoom.{reply_few, replied_is}
use Rattle.console.proofs.answer.answer_into.Goals as goal

pub put_reply-length-requires-clause-few : goal.put_reply-length-requires-clause-few
put_reply-length-requires-clause-few g c =
    let reply = replied_is c.obey_line-console.result.1 c.unwrap_or_else-reply.result c.unwrap_or_else-reply.ensures in
    subst (λ r. moves_told r ≤ 1024) (sym reply)
    (reply_few (g.S.Source.meaning (below c.args.console)) (state_of c.args.console) c.args.line.now (state_of c.obey_line-console.result.0) _ _ _ c.obey_line-console.ensures.line)

pub put_reply-length-requires-clause-records : goal.put_reply-length-requires-clause-records
put_reply-length-requires-clause-records g c = omega (arith, put_reply-length-requires-clause-few g c, c.obey_line-console.auto.moves)

pub returns-clause-written : goal.returns-clause-written
returns-clause-written g c =
    let reply = replied_is c.obey_line-console.result.1 c.unwrap_or_else-reply.result c.unwrap_or_else-reply.ensures in
    record {
      reply = c.unwrap_or_else-reply.result;
      list = replicate 1024 c.default-moves.result;
      list' = c.obey_line-console.new.moves;
      room = refl;
      obeyed =
          subst (λ r. LineBy (g.S.Source.meaning (below c.args.console)) (state_of c.args.console) c.args.line.now (state_of c.obey_line-console.result.0) r (replicate 1024 c.default-moves.result) c.obey_line-console.new.moves)
          (sym reply) c.obey_line-console.ensures.line;
      answered = ap Ok c.put_reply-length.ensures.long;
      text = c.put_reply-length.ensures.text ∙ ap (λ n. reply_text c.unwrap_or_else-reply.result c.obey_line-console.new.moves ++ drop n c.args.area.now) c.put_reply-length.ensures.long;
    }
