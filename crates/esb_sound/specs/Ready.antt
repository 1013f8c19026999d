-- What is owed, as it can be sent.
use Rattle.std.specs.Prelude.{◌<◌, ◌^◌, List, IsSome}
use Rattle.esb_core.specs.declared.out.Out.{Out}
use Rattle.esb_core.specs.declared.out.Out.TheVariants as outs
use Rattle.esb_core.specs.declared.out.Body.{Body}
use Rattle.esb_core.specs.declared.out.Body.TheVariants as bodies
use Rattle.esb_core.specs.State.{Building, build_at}

-- a result is of a build that is settled
abbrev pub IsReadyBody : List Building → Body → Type 0
IsReadyBody builds bodies.Empty = Unit {0}
IsReadyBody builds (bodies.Error text) = Unit {0}
IsReadyBody builds (bodies.Closed n) = Unit {0}
IsReadyBody builds (bodies.Result n) = IsSome (build_at builds n).outcome

abbrev pub IsReady : List Building → Out → Type 0
IsReady builds (outs.Reply id body) = (id < 2 ^ 31) × IsReadyBody builds body
