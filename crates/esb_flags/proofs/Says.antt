-- A request that is read as a command says it, and one that says it is read as it.
use Rattle.std.proofs.Common.{◌≡◌, ℕ, Bool, true, false, not, cond, List, [], ◌++◌, length, Option, Some, None, Ok, Err, refl, ap, ◌∙◌, subst}
use Rattle.std.specs.Prelude.{codes, nat_le}
use Rattle.std.specs.Str.{bytes_eq}
use Rattle.std.proofs.lemmas.Slice.Eq.{bytes_eq-Decides}
use Rattle.esb_base.specs.declared.flags.Flags.{Flags}
use Rattle.esb_wire.specs.declared.value.Value.{Value, out-Value}
use Rattle.esb_wire.specs.declared.value.Value.TheOpen.{Value-F}
use Rattle.esb_flags.specs.declared.command.Command.{Command}
use Rattle.esb_flags.specs.declared.command.Command.TheVariants as command
use Rattle.esb_flags.specs.declared.fields.Fields.{Fields}
use Rattle.esb_flags.specs.declared.options.Plugin.{Plugin}
use Rattle.esb_flags.specs.Command.{asked, node_asked, command_of, keyed, serve_of, build_of, build_flags, if_built, built_of, is_absolute, most_entries}
use Rattle.esb_flags.specs.Fields.{Answer, ◌>>=◌, or_missing, needed, allowed, fields_of}
use Rattle.esb_flags.specs.Named.{NodeIsMap, IsMap}
use Rattle.esb_flags.specs.Said.{HasWord, HasNumber, Says, is_build}
use Rattle.esb_flags.specs.Shapes.{number, boolean, text, list_of, required, entry, plugins}
use Rattle.esb_flags.specs.Unbuilt.{is_built}

pub both : {A B : Type 0} (a : Answer A) (f : A → Answer B) (y : B) → a >>= f ≡ Ok y → (x : A) × ((a ≡ Ok x) × (f x ≡ Ok y))
both (Ok x) f y e = (x, (refl, e))
both (Err refusal) f y e = cc

pub there : {X : Type 0} (name : List ℕ) (found : Option X) (x : X) → or_missing name found ≡ Ok x → found ≡ Some x
there name None x e = cc
there name (Some y) x e = cc

-- ---- what is read is said

keyed_says : (command_with : ℕ → Command) (request : Value) (c : Command) → keyed command_with request ≡ Ok c → (key : ℕ) × (HasNumber (codes "key") key request × (command_with key ≡ c))
keyed_says command_with request c e =
    let a = both (needed (codes "key") number request) (λ key. Ok (command_with key)) c e in
    let last : Ok (command_with a.0) ≡ Ok c = a.1.1 in
    let same : command_with a.0 ≡ c = cc in
    (a.0, (there (codes "key") (required (codes "key") number request) a.0 a.1.0, same))

serve_says : (request : Value) (c : Command) → serve_of request ≡ Ok c
    → (key : ℕ) × ((port : ℕ) × ((HasNumber (codes "key") key request × HasNumber (codes "port") port request) × (command.Serve key port ≡ c)))
unfolding serve_of
serve_says request c e =
    let a = both (needed (codes "key") number request) (λ key. needed (codes "port") number request >>= λ port. Ok (command.Serve key port)) c e in
    let b = both (needed (codes "port") number request) (λ port. Ok (command.Serve a.0 port)) c a.1.1 in
    let last : Ok (command.Serve a.0 b.0) ≡ Ok c = b.1.1 in
    let same : command.Serve a.0 b.0 ≡ c = cc in
    (a.0, (b.0, ((there (codes "key") (required (codes "key") number request) a.0 a.1.0, there (codes "port") (required (codes "port") number request) b.0 b.1.0), same)))

-- the key of a build's fields
key_stays : (a : Answer ℕ) (entries : Answer (List (List ℕ × List ℕ))) (flags : Answer (List (List ℕ))) (cwd : Answer (List ℕ)) (write context : Answer Bool) (plugin_list : Answer (List Plugin)) (fields : Fields)
    → (do
      k ← a
      e ← entries
      f ← flags
      d ← cwd
      w ← write
      c ← context
      p ← plugin_list
      Ok (record { key = k; entries = e; flags = f; cwd = d; write = w; context = c; plugins = p })) ≡ Ok fields → a ≡ Ok fields.key
key_stays (Err refusal) e f d w c p fields is = cc
key_stays (Ok k) (Err refusal) f d w c p fields is = cc
key_stays (Ok k) (Ok e) (Err refusal) d w c p fields is = cc
key_stays (Ok k) (Ok e) (Ok f) (Err refusal) w c p fields is = cc
key_stays (Ok k) (Ok e) (Ok f) (Ok d) (Err refusal) c p fields is = cc
key_stays (Ok k) (Ok e) (Ok f) (Ok d) (Ok w) (Err refusal) p fields is = cc
key_stays (Ok k) (Ok e) (Ok f) (Ok d) (Ok w) (Ok c) (Err refusal) fields is = cc
key_stays (Ok k) (Ok e) (Ok f) (Ok d) (Ok w) (Ok c) (Ok p) fields is = ap (λ (a : Answer Fields). a >>= λ (x : Fields). Ok x.key) is

key_there : (request : Value) (fields : Fields) → fields_of request ≡ Ok fields → HasNumber (codes "key") fields.key request
unfolding fields_of
key_there request fields e =
    there (codes "key") (required (codes "key") number request) fields.key
    (key_stays (needed (codes "key") number request) (needed (codes "entries") (list_of entry) request) (needed (codes "flags") (list_of text) request) (needed (codes "absWorkingDir") text request)
    (needed (codes "write") boolean request) (needed (codes "context") boolean request) (allowed (codes "plugins") [] plugins request) fields e)

-- what holds of the fields of a build that is read, and of its flags
pub record Built (fields : Fields) (c : Command) : Type 0 where
  pub taken : is_built fields ≡ true
  pub absolute : is_absolute fields.cwd ≡ true
  pub few : nat_le (length fields.entries) most_entries ≡ true
  pub flags : Flags
  pub asks : build_flags fields ≡ Ok flags
  pub is : built_of fields flags ≡ c

pub built : (fields : Fields) (c : Command) (taken : Bool) → is_built fields ≡ taken → if_built fields taken ≡ Ok c → Built fields c
built fields c false t e = cc
built fields c true t e = by (is_absolute fields.cwd) (nat_le (length fields.entries) most_entries) refl refl e
  where
    by : (a b : Bool) → is_absolute fields.cwd ≡ a → nat_le (length fields.entries) most_entries ≡ b
        → cond (not a) (Err (codes "Bad working folder")) (cond b (build_flags fields >>= λ flags. Ok (built_of fields flags)) (Err (codes "Too many entries"))) ≡ Ok c → Built fields c
    by false b there is f = cc
    by true false there is f = cc
    by true true there is f =
        let a = both (build_flags fields) (λ flags. Ok (built_of fields flags)) c f in
        let last : Ok (built_of fields a.0) ≡ Ok c = a.1.1 in
        let same : built_of fields a.0 ≡ c = cc in
        record { taken = t; absolute = there; few = is; flags = a.0; asks = a.1.0; is = same }

build_says : (request : Value) (c : Command) → build_of request ≡ Ok c → HasWord (codes "build") request → Says c request
unfolding build_of
build_says request c e word =
    let a = both (fields_of request) (λ fields. if_built fields (is_built fields)) c e in
    let b = built a.0 c (is_built a.0) refl a.1.1 in
    subst (λ (x : Command). Says x request) b.is (word, key_there request a.0 a.1.0)

-- the word that the name is
word_is : (name word : List ℕ) (request : Value) → bytes_eq name word ≡ true → HasWord name request → HasWord word request
word_is name word request e has = subst (λ (w : List ℕ). HasWord w request) ((bytes_eq-Decides name word).0 e) has

name_says : (c : Command) (name : List ℕ) (request : Value) → HasWord name request → (is_build is_rebuild is_cancel is_dispose is_watch is_serve is_ping : Bool)
    → bytes_eq name (codes "build") ≡ is_build → bytes_eq name (codes "rebuild") ≡ is_rebuild → bytes_eq name (codes "cancel") ≡ is_cancel → bytes_eq name (codes "dispose") ≡ is_dispose
    → bytes_eq name (codes "watch") ≡ is_watch → bytes_eq name (codes "serve") ≡ is_serve → bytes_eq name (codes "ping") ≡ is_ping
    → cond is_build (build_of request) (cond is_rebuild (keyed command.Rebuild request) (cond is_cancel (keyed command.Cancel request) (cond is_dispose (keyed command.Dispose request)
    (cond is_watch (keyed command.Watch request) (cond is_serve (serve_of request) (cond is_ping (Ok command.Ping) (Err (codes "Unknown command: " ++ name)))))))) ≡ Ok c
    → Says c request
name_says c name request has true b3 b4 b5 b6 b7 b8 i h3 h4 h5 h6 h7 h8 e = build_says request c e (word_is name (codes "build") request i has)
name_says c name request has false true b4 b5 b6 b7 b8 h2 i h4 h5 h6 h7 h8 e =
    let a = keyed_says command.Rebuild request c e in
    subst (λ (x : Command). Says x request) a.1.1 (word_is name (codes "rebuild") request i has, a.1.0)
name_says c name request has false false true b5 b6 b7 b8 h2 h3 i h5 h6 h7 h8 e =
    let a = keyed_says command.Cancel request c e in
    subst (λ (x : Command). Says x request) a.1.1 (word_is name (codes "cancel") request i has, a.1.0)
name_says c name request has false false false true b6 b7 b8 h2 h3 h4 i h6 h7 h8 e =
    let a = keyed_says command.Dispose request c e in
    subst (λ (x : Command). Says x request) a.1.1 (word_is name (codes "dispose") request i has, a.1.0)
name_says c name request has false false false false true b7 b8 h2 h3 h4 h5 i h7 h8 e =
    let a = keyed_says command.Watch request c e in
    subst (λ (x : Command). Says x request) a.1.1 (word_is name (codes "watch") request i has, a.1.0)
name_says c name request has false false false false false true b8 h2 h3 h4 h5 h6 i h8 e =
    let a = serve_says request c e in
    subst (λ (x : Command). Says x request) a.1.1.1 ((word_is name (codes "serve") request i has, a.1.1.0.0), a.1.1.0.1)
name_says c name request has false false false false false false true h2 h3 h4 h5 h6 h7 i e =
    let same : command.Ping ≡ c = cc in
    subst (λ (x : Command). Says x request) same (word_is name (codes "ping") request i has)
name_says c name request has false false false false false false false h2 h3 h4 h5 h6 h7 h8 e = cc

command_says : (c : Command) (name : List ℕ) (request : Value) → HasWord name request → command_of name request ≡ Ok c → Says c request
unfolding command_of
command_says c name request has e =
    name_says c name request has (bytes_eq name (codes "build")) (bytes_eq name (codes "rebuild")) (bytes_eq name (codes "cancel")) (bytes_eq name (codes "dispose"))
    (bytes_eq name (codes "watch")) (bytes_eq name (codes "serve")) (bytes_eq name (codes "ping")) refl refl refl refl refl refl refl e

node_says : (request : Value) (layer : Value-F Value) (c : Command) → node_asked request layer ≡ Ok c → Says c request
node_says request (Value-F.Map pairs) c e =
    let a = both (needed (codes "command") text request) (λ name. command_of name request) c e in
    command_says c a.0 request (there (codes "command") (required (codes "command") text request) a.0 a.1.0) a.1.1
node_says request layer c e = cc

pub says : (request : Value) (c : Command) → asked request ≡ Ok c → Says c request
unfolding asked
says request c e = node_says request (out-Value request) c e

-- ---- what is said is read

node_named : (request : Value) (layer : Value-F Value) (name : List ℕ) → NodeIsMap layer → HasWord name request → node_asked request layer ≡ command_of name request
node_named request (Value-F.Map pairs) name map has = rw has refl
node_named request layer name map has = absurd map

pub named : (request : Value) (name : List ℕ) → IsMap request → HasWord name request → asked request ≡ command_of name request
unfolding asked
named request name map has = node_named request (out-Value request) name map has

pub reads : (request : Value) (c : Command) → IsMap request → Says c request → is_build c ≡ false → asked request ≡ Ok c
unfolding command_of serve_of
reads request (command.Build key options) map h n = cc
reads request (command.Rebuild key) map h n = named request (codes "rebuild") map h.0 ∙ rw h.1 refl
reads request (command.Cancel key) map h n = named request (codes "cancel") map h.0 ∙ rw h.1 refl
reads request (command.Dispose key) map h n = named request (codes "dispose") map h.0 ∙ rw h.1 refl
reads request (command.Watch key) map h n = named request (codes "watch") map h.0 ∙ rw h.1 refl
reads request (command.Serve key port) map h n = named request (codes "serve") map h.0.0 ∙ rw h.0.1 (rw h.1 refl)
reads request command.Ping map h n = named request (codes "ping") map h
