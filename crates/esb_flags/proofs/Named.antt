-- Requests with the same fields ask for the same.
use Rattle.std.proofs.Common.{◌≡◌, ℕ, List, Ok, Err, refl}
use Rattle.std.specs.Prelude.{codes}
use Rattle.esb_wire.specs.declared.value.Value.{Value, out-Value}
use Rattle.esb_wire.specs.declared.value.Value.TheOpen.{Value-F}
use Rattle.esb_wire.specs.Field.{field}
use Rattle.esb_flags.specs.declared.command.Command.{Command}
use Rattle.esb_flags.specs.declared.command.Command.TheVariants as command
use Rattle.esb_flags.specs.Command.{asked, node_asked, command_of, keyed, serve_of, build_of}
use Rattle.esb_flags.specs.Fields.{Answer, ◌>>=◌, needed, allowed, fields_of}
use Rattle.esb_flags.specs.Named.{NodeIsMap, IsMap, SameFields}
use Rattle.esb_flags.specs.Shapes.{Shape, number, boolean, text, list_of, required, optional, entry, plugins}

needed-same : {X : Type 0} (name : List ℕ) (shape : Shape X) (one other : Value) → field name one ≡ field name other → needed name shape one ≡ needed name shape other
unfolding required
needed-same name shape one other e = rw e refl

allowed-same : {X : Type 0} (name : List ℕ) (absent : X) (shape : Shape X) (one other : Value) → field name one ≡ field name other → allowed name absent shape one ≡ allowed name absent shape other
unfolding optional
allowed-same name absent shape one other e = rw e refl

then-same : {A B : Type 0} (a : Answer A) (f g : A → Answer B) → ((x : A) → f x ≡ g x) → (a >>= f) ≡ (a >>= g)
then-same (Ok x) f g h = h x
then-same (Err refusal) f g h = refl

fields-same : (one other : Value) → SameFields one other → fields_of one ≡ fields_of other
unfolding fields_of
fields-same one other h =
    rw (
      needed-same (codes "key") number one other h.1.0,
      needed-same (codes "entries") (list_of entry) one other h.1.1.0,
      needed-same (codes "flags") (list_of text) one other h.1.1.1.0,
      needed-same (codes "absWorkingDir") text one other h.1.1.1.1.0,
      needed-same (codes "write") boolean one other h.1.1.1.1.1.0,
      needed-same (codes "context") boolean one other h.1.1.1.1.1.1.0,
      allowed-same (codes "plugins") _ plugins one other h.1.1.1.1.1.1.1.0,
    ) refl

build-same : (one other : Value) → SameFields one other → build_of one ≡ build_of other
unfolding build_of
build-same one other h = rw (fields-same one other h) refl

keyed-same : (one other : Value) → SameFields one other → (command_with : ℕ → Command) → keyed command_with one ≡ keyed command_with other
keyed-same one other h command_with = rw (needed-same (codes "key") number one other h.1.0) refl

serve-same : (one other : Value) → SameFields one other → serve_of one ≡ serve_of other
unfolding serve_of
serve-same one other h = rw (needed-same (codes "key") number one other h.1.0, needed-same (codes "port") number one other h.1.1.1.1.1.1.1.1.0) refl

command-same : (one other : Value) → SameFields one other → (name : List ℕ) → command_of name one ≡ command_of name other
unfolding command_of
command-same one other h name =
    rw (
      build-same one other h,
      keyed-same one other h command.Rebuild,
      keyed-same one other h command.Cancel,
      keyed-same one other h command.Dispose,
      keyed-same one other h command.Watch,
      serve-same one other h,
    ) refl

node-same : (one other : Value) (a b : Value-F Value) → NodeIsMap a → NodeIsMap b → SameFields one other → node_asked one a ≡ node_asked other b
node-same one other (Value-F.Map ps) (Value-F.Map qs) p q h =
    rw (needed-same (codes "command") text one other h.0)
    (then-same (needed (codes "command") text other) (λ name. command_of name one) (λ name. command_of name other) (command-same one other h))
node-same one other (Value-F.Map ps) b p q h = absurd q
node-same one other a b p q h = absurd p

pub same : (one other : Value) → IsMap one → IsMap other → SameFields one other → asked one ≡ asked other
unfolding asked
same one other p q h = node-same one other (out-Value one) (out-Value other) p q h
