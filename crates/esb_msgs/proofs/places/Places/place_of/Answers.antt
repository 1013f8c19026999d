use Rattle.std.proofs.Common.{◌≡◌, ℕ, ◌-◌, List, get_or, ap, sym, subst, ◌∙◌, arith}
use Rattle.std.specs.List.Sorted.{IsNonDecreasing}
use Rattle.std.proofs.lemmas.List.{get_or_read}
use Rattle.esb_msgs.specs.Lines.{told, line_starts, column_of}
use Rattle.esb_msgs.proofs.Starts.{place_found, line_starts_rise}
use Rattle.esb_msgs.proofs.places.Places.place_of.Goals as goal

pub count_upto-line-requires : goal.count_upto-line-requires
count_upto-line-requires c =
    let are = c.as_slice.ensures.value ∙ c.self.invariant in
    subst (λ xs. IsNonDecreasing xs) (sym are) (line_starts_rise c.self.inside.contents.now)

pub overflow_sub-line : goal.overflow_sub-line
overflow_sub-line c =
    let are = c.as_slice.ensures.value ∙ c.self.invariant ∙ ap line_starts c.self.view_is in
    (place_found c.args.self.now c.as_slice.result.now c.args.offset c.count_upto-line.result are c.requires c.count_upto-line.ensures.within c.count_upto-line.ensures.parts).some

pub returns-clause-line : goal.returns-clause-line
returns-clause-line c =
    let are = c.as_slice.ensures.value ∙ c.self.invariant ∙ ap line_starts c.self.view_is in
    let found = place_found c.args.self.now c.as_slice.result.now c.args.offset c.count_upto-line.result are c.requires c.count_upto-line.ensures.within c.count_upto-line.ensures.parts in
    c.told.ensures ∙ ap told found.line_is

pub returns-clause-column : goal.returns-clause-column
returns-clause-column c =
    let are = c.as_slice.ensures.value ∙ c.self.invariant ∙ ap line_starts c.self.view_is in
    let found = place_found c.args.self.now c.as_slice.result.now c.args.offset c.count_upto-line.result are c.requires c.count_upto-line.ensures.within c.count_upto-line.ensures.parts in
    let line = c.count_upto-line.result in
    let some = found.some in
    let start = get_or_read c.as_slice.result.now (line - 1) c.index-start.result.now (omega (arith, c.count_upto-line.ensures.within)) (c.index-start.ensures ∙ ap (λ (xs : List ℕ). get_or xs (line - 1) c.index-start.result.now) (sym c.as_slice.ensures.value)) 0 in
    let at = start ∙ ap (λ (xs : List ℕ). get_or xs (line - 1) 0) are in
    let column : c.args.offset - c.index-start.result.now ≡ column_of c.args.self.now c.args.offset = omega (arith, at, found.column_is (line - 1) (omega arith)) in
    c.told-2.ensures ∙ ap told column
