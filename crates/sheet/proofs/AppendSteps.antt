-- A writer that goes on in its area: what it writes in two steps is the two texts as one.
use Rattle.std.proofs.Common.{◌≡◌, ℕ, List, [], ◌++◌, sym, refl, ap, ◌∙◌, add-zero, subst, arith}
use Rattle.std.proofs.lemmas.List.{length-append}
use Rattle.sheet.specs.Area.{put, HasRoom, Appends}
use Rattle.sheet.specs.declared.frame_writer.FrameWriter.{FrameWriter}
use Rattle.sheet.proofs.PutLaws.{put-none, put-put}

pub nothing : {w : FrameWriter} → HasRoom 0 w → Appends [] w w
nothing {w} room = record {
  behind = sym (add-zero w.at);
  inside = omega arith;
  text = sym (put-none w.at w.area.now);
  same_length = refl;
  same_area = refl;
}

pub both : {text more whole : List ℕ} {a b c : FrameWriter} → text ++ more ≡ whole → Appends text a b → Appends more b c → Appends whole a c
both {text} {more} {whole} {a} {b} {c} is first second =
    let long = length-append text more in
    subst (λ t. Appends t a c) is (record {
      behind = omega (arith, first.behind, second.behind);
      inside = second.inside;
      text =
          second.text ∙ ap (put b.at more) first.text
          ∙ put-put a.at b.at text more a.area.now (omega (arith, first.inside, first.behind, first.same_length)) first.behind;
      same_length = second.same_length ∙ first.same_length;
      same_area = second.same_area ∙ first.same_area;
    })
