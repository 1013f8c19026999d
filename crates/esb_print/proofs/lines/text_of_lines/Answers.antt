use Rattle.std.proofs.Common.{◌≡◌, None, sym, ap, ◌∙◌, subst}
use Rattle.std.specs.List.{flat_map}
use Rattle.esb_print.specs.Lines.{rest_of_line, line, text_of}
use Rattle.esb_print.specs.Again.{ReadsAgain}
use Rattle.esb_print.proofs.Appending.{last_line}
use Rattle.esb_print.proofs.Rereading.{printed-is_read}
use Rattle.esb_print.proofs.lines.text_of_lines.Goals as goal

pub returns-clause-again : goal.returns-clause-again
unfolding text_of line
returns-clause-again c printable =
    let same = c.as_bytes-bytes.ensures.value in
    let printed : c.loop-line.out ≡ text_of c.args.contents.now c.args.lines.now =
    last_line (rest_of_line c.as_bytes-bytes.result.now None) c.args.lines.now c.loop-line.line-index c.loop-line.out _ c.loop-line-test.false c.loop-line.invariant
    ∙ ap (λ bytes. flat_map (rest_of_line bytes None) c.args.lines.now) same in
    subst (λ text. ReadsAgain c.args.contents.now c.args.lines.now text) (sym printed) (printed-is_read c.args.contents.now c.args.lines.now (rw same at c.as_bytes-bytes.ensures.utf8) printable)
