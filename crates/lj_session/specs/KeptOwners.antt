-- The value of an owner in the code, and its invariant.
use Rattle.std.specs.Prelude.{◌<◌, IfSome}
use Rattle.lj_session.specs.declared.owner.Owner.TheInside.{Inside}
use Rattle.lj_session.specs.Owner.{Owner}
use Rattle.lj_session.specs.UserState.{IsAtWork, turns_before}

-- the value of an owner's fields
abbrev pub owner_of_kept : Inside → Owner
owner_of_kept a = record { state = a.state; number = a.user; waiting = a.waiting }

-- A step is open in each session that has one to make, and the waiting command has turns to wait for.
pub record IsOwner (a : Inside) : Type 0 where
  pub at_work : IsAtWork a.waiting a.state
  pub some : IfSome a.waiting (λ command. 0 < turns_before a.state command)
