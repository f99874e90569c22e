use Rattle.std.proofs.Common.{◌≡◌, ◌-◌, length, get_or, take, drop, Some, sym, ap, ◌∙◌, arith, rules}
use Rattle.sheet.specs.Digits.{bytes_of}
use Rattle.sheet.specs.Content.{content}
use Rattle.sheet.specs.Kinds.{code_of}
use Rattle.sheet.specs.Sheets.{entry}
use Rattle.sheet.specs.declared.kind.FrameKind.TheVariants.{Mills, Program, End}
use Rattle.sheet.proofs.DigitLaws.{length_bytes}
use Rattle.sheet.proofs.ItemSteps.{item_entry, item-none, mill_digits}
use Rattle.sheet.proofs.KindSteps.{unknown_kind, known_kind}
use Rattle.sheet.proofs.frame.sheet_frame.Goals as goal
use Rattle.sheet.proofs.frame.sheet_frame.Goals.{in_default-via-in-Mills+in_default, in_default-via-in-Program+then-this-lt2, in_default-via-in-Program+else-this-lt2+else-this-lt66, in_default-via-in-End+in_default}

pub returns-in_err-kind : goal.returns-in_err-kind
returns-in_err-kind c =
    let unknown = unknown_kind c.args.frame.kind c.try_from.result c.try_from.ensures (sym c.ok.ensures.value ∙ c.in_err-kind.was) in
    rw c.from_residual.ensures
    (sym (item-none (content c.args.frame) (λ k n. unknown Mills (sym k)) (λ k low high. unknown Program (sym k)) (λ k n. unknown End (sym k))))

pub returns-in-Program-2-to-65 : goal.returns-in-Program-2-to-65
returns-in-Program-2-to-65 c =
    let ds = c.args.frame.payload.now in
    let long = length_bytes ds in
    let kind : c.args.frame.kind ≡ 2 =
    sym (known_kind c.args.frame.kind c.try_from.result c.try_from.ensures c.in_ok-kind.kind (sym c.ok.ensures.value ∙ c.in_ok-kind.was)) ∙ ap code_of c.in-Program-2-to-65.is-0 in
    let p : get_or (bytes_of ds) 0 0 ≡ c.byte_at-in-Program-2-to-65.result = sym c.byte_at-in-Program-2-to-65.ensures in
    let m : drop 1 (bytes_of ds) ≡ bytes_of (take (length ds - 2) (drop 2 ds)) = sym (mill_digits ds) in
    let is = item_entry (content c.args.frame) (λ a b. omega arith) kind (omega arith) (omega arith) in
    sym (is ∙ (λ j. Some (entry (record { program = p j; mills = m j }))))

pub returns-in_default : goal.returns-in_default
returns-in_default c =
    let f = content c.args.frame in
    let long = length_bytes c.args.frame.payload.now in
    let is = known_kind c.args.frame.kind c.try_from.result c.try_from.ensures c.in_ok-kind.kind (sym c.ok.ensures.value ∙ c.in_ok-kind.was) in
    elim c.in_default.branch [
      | in_default-via-in-Mills+in_default w ↦ let kind = sym is ∙ ap code_of w.in_default.is-0 in sym (item-none f (λ k n. w.in_default.is-1.1 (sym long ∙ n)) (λ k low high. omega arith) (λ k n. omega arith))
      | in_default-via-in-Program+then-this-lt2 w ↦ let program : c.in_ok-kind.kind ≡ Program = search rules in let kind = sym is ∙ ap code_of program in sym (item-none f (λ k n. omega arith) (λ k low high. omega arith) (λ k n. omega arith))
      | in_default-via-in-Program+else-this-lt2+else-this-lt66 w ↦ let program : c.in_ok-kind.kind ≡ Program = search rules in let kind = sym is ∙ ap code_of program in sym (item-none f (λ k n. omega arith) (λ k low high. omega arith) (λ k n. omega arith))
      | in_default-via-in-End+in_default w ↦ let kind = sym is ∙ ap code_of w.in_default.is-0 in sym (item-none f (λ k n. omega arith) (λ k low high. omega arith) (λ k n. w.in_default.is-1.1 (sym long ∙ n)))
    ]
