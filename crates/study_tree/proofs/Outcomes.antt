-- Consequences of a clause about one outcome of a call.
use Rattle.std.proofs.Common.{Option, Some, None}
use Rattle.std.specs.Prelude.{Result, Ok, Err, IfOk, OnOk, OnErr, IfSome}

module _ {T E : Type 0} where
  pub if_ok-then : (r : Result T E) {P Q : T → Type 0} → ((x : T) → P x → Q x) → IfOk r P → IfOk r Q
  if_ok-then (Ok x) f h = f x h
  if_ok-then (Err e) f h = h

  pub on_ok-then : (r : Result T E) {P Q : Type 0} → (P → Q) → OnOk r P → OnOk r Q
  on_ok-then (Ok x) f h = f h
  on_ok-then (Err e) f h = h

  pub on_err-then : (r : Result T E) {P Q : Type 0} → (P → Q) → OnErr r P → OnErr r Q
  on_err-then (Ok x) f h = h
  on_err-then (Err e) f h = f h

pub if_some-then : {T : Type 0} (o : Option T) {P Q : T → Type 0} → ((x : T) → P x → Q x) → IfSome o P → IfSome o Q
if_some-then (Some x) f h = f x h
if_some-then None f h = h
