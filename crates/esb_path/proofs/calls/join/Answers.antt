use Rattle.std.proofs.Common.{◌≡◌, ◌==◌, ℕ, List, true, slice_index, sym, ap, ◌∙◌, map, ◌∷◌, ◌++◌}
use Rattle.std.proofs.lemmas.Bool.{cond-true}
use Rattle.std.proofs.lemmas.Result.{IfOk-weaker}
use Rattle.esb_path.specs.Segments.{slash, walked}
use Rattle.esb_path.specs.Paths.{absolute, clean_path, joined_path}
use Rattle.esb_path.proofs.Cleaned.{joined_on}
use Rattle.esb_path.proofs.calls.join.Goals as goal

joined_alone : (folder rest : List ℕ) → (slice_index rest 0 == slash) ≡ true → joined_path folder rest ≡ clean_path rest
unfolding joined_path
joined_alone folder rest e = cond-true (slice_index rest 0 == slash) (clean_path rest) (clean_path (folder ++ slash ∷ rest)) e

pub returns-then-is_absolute : goal.returns-then-is_absolute
returns-then-is_absolute c =
    let e = sym c.is_absolute.ensures ∙ c.if-is_absolute.true in
    IfOk-weaker c.clean.result _ _ (λ text is. is ∙ sym (joined_alone c.args.folder.now c.args.rest.now e)) c.clean.ensures

pub returns : goal.returns
returns c =
    let e = sym c.is_absolute.ensures ∙ c.if-is_absolute.false in
    let names = c.in_ok-walk.ensures ∙ ap (λ t. walked t c.args.rest.now) c.in_ok-names.ensures in
    IfOk-weaker c.absolute.result _ _ (λ text is. is ∙ ap (λ t. absolute (map (λ name. name.now) t)) c.as_slice.ensures.value ∙ ap absolute names ∙ sym (joined_on c.args.folder.now c.args.rest.now e)) c.absolute.ensures
