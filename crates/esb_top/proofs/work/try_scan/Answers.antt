use Rattle.std.proofs.Common.{true, ◌≡◌, List, Result, Ok, Err, OnOk, OnErr, sym, subst}
use Rattle.esb_base.specs.World.{Folder}
use Rattle.esb_base.specs.declared.memory.Memory.{Memory}
use Rattle.esb_flags.specs.declared.options.Options.{Options}
use Rattle.esb_ask.specs.declared.task.Task.{Task}
use Rattle.esb_ask.specs.declared.product.Product.{Product}
use Rattle.esb_core.specs.declared.event.Event.TheVariants as event
use Rattle.esb_core.specs.State.{build_at}
use Rattle.esb_core.specs.History.{is_legal, replay}
use Rattle.esb_sound.specs.Sound.{IsGiven}
use Rattle.esb_top.specs.Entries.{Entries, AddedWithin}
use Rattle.esb_top.specs.Work.{IsGoing, Worked}
use Rattle.esb_top.proofs.Histories.{worked-trans}
use Rattle.esb_top.proofs.Working.{delivered-puts, delivered-step}
use Rattle.esb_top.proofs.work.try_scan.Goals as goal
use Rattle.std.proofs.Common.{ℕ}

-- the work up to a product, and its delivery, which may be refused
and_delivered : (tells : Type 0) (world : List Folder) (a b : ℕ) (es : Entries) (mid new : Entries) (n : ℕ) (t : Task) (p : Product) (options : Options) (result : Result (Unit {0}) Memory) → Worked tells world a b es.events mid.events
    → is_legal mid.events ≡ true → IsGoing mid.events n t options → IsGiven options (build_at (replay mid.events).builds n).table t p
    → OnOk result (AddedWithin mid new (event.Deliver 0 n t p)) → OnErr result (new ≡ mid) → Worked tells world a b es.events new.events
and_delivered tells world a b es mid new n t p options (Ok u) w legal go given added kept =
    worked-trans tells world a b b es.events mid.events new.events w (delivered-step tells world b mid new.events n t p options legal go.same_options given go.in_hand added.events)
and_delivered tells world a b es mid new n t p options (Err f) w legal go given added kept = subst (λ (e : Entries). Worked tells world a b es.events e.events) (sym kept) w

pub returns-clause-worked : goal.returns-clause-worked
returns-clause-worked g c =
    and_delivered g.H.Host.tells (g.H.Host.world c.args.host.now) (g.H.Host.faults c.args.host.now) (g.H.Host.faults c.product_of.new.host) c.args.history.now c.product_of.new.history c.deliver.new.self c.args.build c.args.task.now
    c.in-Some.product c.get.result.now c.deliver.result c.in_ok-product.ensures.worked c.is_legal.ensures (rw c.in-Some.is at c.in_ok-product.ensures.going) (rw c.in-Some.is at c.in_ok-product.ensures.product) c.deliver.ensures.ok c.deliver.ensures.err

pub returns-clause-puts : goal.returns-clause-puts
returns-clause-puts g c =
    delivered-puts g.H.Host.tells (g.H.Host.put_at c.args.host.now) (g.H.Host.put_at c.product_of.new.host) (g.H.Host.put_faults c.args.host.now) (g.H.Host.put_faults c.product_of.new.host) c.args.history.now.events c.product_of.new.history c.deliver.new.self c.args.build c.args.task.now c.in-Some.product c.deliver.result
    c.in_ok-product.ensures.puts c.deliver.ensures.ok c.deliver.ensures.err
