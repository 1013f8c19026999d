use Rattle.std.proofs.Common.{map, sym}
use Rattle.std.proofs.lemmas.List.{map_push}
use Rattle.esb_path.proofs.Walks.{entered-name}
use Rattle.esb_path.proofs.names.enter.Goals as goal

pub returns-in_ok-push-in_default : goal.returns-in_ok-push-in_default
returns-in_ok-push-in_default c =
    rw (c.in_ok-push-in_default.ensures.items, map_push)
    (sym (entered-name (map (λ name. name.now) c.args.names.now.items) c.args.segment.now c.in_default.not-empty c.in_default.not-text c.in_default.not-text-2))
