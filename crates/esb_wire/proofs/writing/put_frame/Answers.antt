use Rattle.std.proofs.Common.{◌≡◌, ◌-◌, ◌++◌, List, ℕ, refl, ap, ◌∙◌, arith}
use Rattle.esb_wire.specs.Spelling.{word}
use Rattle.esb_wire.specs.Written.{written_body, written_frame}
use Rattle.esb_wire.proofs.Kept.{patched, rest_len}
use Rattle.esb_wire.proofs.Sorts.{written_short}
use Rattle.esb_wire.proofs.writing.put_frame.Goals as goal

pub overflow_cast-len : goal.overflow_cast-len
overflow_cast-len c =
    let body = written_body c.args.packet.now in
    let whole : c.put_body.new.out ≡ (c.args.out.now ++ word 0) ++ body = c.in_ok-put_body.ensures.ok ∙ ap (λ (t : List ℕ). t ++ body) c.in_ok-put_word.ensures.ok in
    let len = rest_len c.args.out.now (word 0) body c.put_body.new.out c.len-start.result c.len.result c.len-start.ensures refl whole c.len.ensures in
    omega (arith, len, written_short c.args.packet.now c.requires)

pub returns-clause-ok : goal.returns-clause-ok
unfolding written_frame
returns-clause-ok c =
    let body = written_body c.args.packet.now in
    let whole : c.put_body.new.out ≡ (c.args.out.now ++ word 0) ++ body = c.in_ok-put_body.ensures.ok ∙ ap (λ (t : List ℕ). t ++ body) c.in_ok-put_word.ensures.ok in
    let len = rest_len c.args.out.now (word 0) body c.put_body.new.out c.len-start.result c.len.result c.len-start.ensures refl whole c.len.ensures in
    let frame = patched c.args.out.now (word 0) body c.put_body.new.out c.set_word.new.out (word (c.len.result - c.len-start.result - 4)) c.len-start.result c.len-start.ensures refl whole c.set_word.ensures in
    frame ∙ ap (λ (n : ℕ). c.args.out.now ++ (word n ++ body)) len
