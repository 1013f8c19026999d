use Rattle.std.proofs.Common.{◌≡◌, true, false, List, [], ◌++◌, sym, subst, ◌∙◌, arith, true≢false}
use Rattle.esb_ask.specs.declared.message.Message.{Message}
use Rattle.esb_link.specs.declared.fault.LinkFault.TheVariants as fault
use Rattle.esb_link.specs.SerialLink.{IsFault}
use Rattle.esb_link.proofs.Faults.{scanned_fault, shared_fault}
use Rattle.esb_link.proofs.linking.link.Goals as goal

pub returns-then-not-is_empty-clause-err : goal.returns-then-not-is_empty-clause-err
returns-then-not-is_empty-clause-err c =
    let scanned = c.in_ok-of_entries.field-0 in
    let given = c.in_ok-of_entries.ensures in
    let whole = c.in_ok-append.ensures.ok in
    let full : c.is_empty.result ≡ false = first_of (cc, grind arith) in
    subst (λ (ms : List Message). IsFault c.args.options.now c.args.table.now (fault.Errors ms)) (sym whole)
    (scanned_fault c.args.options.now c.args.table.now scanned.of_entries scanned.of_files given.of_entries given.of_files given.placed (λ none. true≢false (sym (c.is_empty.ensures.1 (whole ∙ none)) ∙ full)))

pub returns-then-not-is_empty-2-clause-err : goal.returns-then-not-is_empty-2-clause-err
returns-then-not-is_empty-2-clause-err c =
    let scanned = c.in_ok-of_entries.field-0 in
    let given = c.in_ok-of_entries.ensures in
    let empty : c.is_empty.result ≡ true = first_of (cc, grind arith) in
    let full : c.is_empty-2.result ≡ false = first_of (cc, grind arith) in
    shared_fault c.args.options.now c.args.table.now scanned.of_entries scanned.of_files scanned.outputs c.in_ok-files.shared given.of_entries given.of_files (sym c.in_ok-append.ensures.ok ∙ c.is_empty.ensures.0 empty) given.outputs
    c.in_ok-files.ensures.messages (λ none. true≢false (sym (c.is_empty-2.ensures.1 none) ∙ full))
