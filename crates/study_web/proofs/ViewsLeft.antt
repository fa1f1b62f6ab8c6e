-- The view of what a script has left.
use Rattle.std.proofs.Common.{◌≡◌, ◌++◌, ℕ, Bool, List, Option, Result, Ok, Err, subst}
use Rattle.std.specs.Prelude.{IfOk}
use Rattle.study_material.specs.declared.class.Class.{Class}
use Rattle.study_values.specs.declared.fault.SourceFault.{SourceFault}
use Rattle.study_script.specs.declared.store.StoreFault.{StoreFault}
use Rattle.study_command.specs.Documents.{Document}
use Rattle.study_script.specs.State.{StoreKnowledge, State, is_among}
use Rattle.study_web.specs.Opened.{IsHeldAs}
use Rattle.study_web.specs.Views.{IsDocumentView, IsLeft, IsViewOver, OverStore}

pub view_over : {V E : Type 0} (made : Result V E) (items : V → List ℕ) (headers : Class → Option (Result (List ℕ) StoreFault))
    (faults : Class → SourceFault → Bool) (classes : List Class) (shelf : StoreKnowledge) (script steps : List ℕ) (state : State) (document : Document)
    (refused : List ℕ) → ((c : Class) → IsHeldAs (headers c) (is_among classes c)) → ((c : Class) (f : SourceFault) → shelf.faults c f ≡ faults c f)
    → document ≡ state.document → IsLeft classes shelf script state refused
    → IfOk made (λ v. (view : List ℕ) × IsDocumentView document steps view × (items v ≡ view ++ refused))
    → IfOk made (λ v. OverStore headers faults (IsViewOver script steps (items v)))
view_over (Ok v) items headers faults classes shelf script steps state document refused held knows same left (view, shown, is) =
    (classes, held, shelf, knows, (state, view, refused, left, subst (λ (d : Document). IsDocumentView d steps view) same shown, is))
view_over (Err e) items headers faults classes shelf script steps state document refused held knows same left h = tt
