-- What a search that leaves out picks says, and what one says that leaves out none.
use Rattle.std.proofs.Common.{◌≡◌, Bool, true, false, Option, Some, None, subst}
use Rattle.std.specs.Prelude.{IfSome, IfNone}
use Rattle.def_script.specs.Program.{Program}
use Rattle.def_explore.specs.Rests.{KeptMessages}
use Rattle.tn_explore.specs.declared.search.Exploration.{Exploration}
use Rattle.tn_messages.specs.declared.kept_listings.KeptListings.{KeptListings}
use Rattle.tn_search.specs.States.{ExploresPlanned}
use Rattle.tn_search.specs.declared.exploration.SearchPlan.{SearchPlan}

pub some_weaker : {X : Type 0} (P Q : X → Type 0) → ((x : X) → P x → Q x) → (o : Option X) → IfSome o P → IfSome o Q
some_weaker P Q f None h = tt
some_weaker P Q f (Some x) h = f x h

-- a search that leaves out none answers
pub none_left_out : {X : Type 0} (o : Option X) → o ≡ None → IfNone o (false ≡ true) → ⊥
none_left_out None is h = absurd (let x : false ≡ true = h in cc)
none_left_out (Some x) is h = cc

module _ {A : Type 0} (b : Bool) (p : Program) (plan : SearchPlan) (e : Exploration A (KeptListings A)) where
  -- one that leaves out none says more
  pub whole_says_more : (admits : KeptMessages → Bool) → ExploresPlanned false admits b p plan e → ExploresPlanned true admits b p plan e
  whole_says_more admits h = record {
    sound = h.sound;
    distinct = h.distinct;
    complete = h.complete;
    shortest = h.shortest;
    count = record {
      journals = h.count.journals;
      from = h.count.from;
      count = h.count.count;
      all = λ whole none. absurd (let x : true ≡ false = none in cc);
    };
    stops = h.stops;
  }

  pub as_left : (left other : Bool) (admits : KeptMessages → Bool) → left ≡ other → ExploresPlanned left admits b p plan e → ExploresPlanned other admits b p plan e
  as_left left other admits same h = subst (λ l. ExploresPlanned l admits b p plan e) same h
