-- A reply that lists the atoms of a session, or what is saved in it, and the user after it.
use Rattle.std.proofs.Common.{◌≡◌, ℕ, Bool, List, Option, Some, None, Result, Ok, Err, nat_lt, refl}
use Rattle.std.specs.Prelude.{IsSome, IfSome, is_some, not}
use Rattle.lj_branch.specs.Named.{value_named}
use Rattle.lj_xyz.specs.Atoms.{◌>>=◌}
use Rattle.lj_session.specs.declared.command.Command.{Command}
use Rattle.lj_session.specs.declared.command.Command.TheVariants.{Load, Advance, Start, Reverse, Branch, Restore, Forget, Tug, Measure, Show, Dump, List as ListSessions, ListBranches, Unload, Bye}
use Rattle.lj_session.specs.declared.refusal.Refusal.{Refusal}
use Rattle.lj_session.specs.declared.refusal.Refusal.TheVariants.{NoSession, BranchExists, QuotaBranches, StepRange, Memory}
use Rattle.lj_session.specs.declared.reply.Reply.{Reply}
use Rattle.lj_session.specs.declared.reply.Reply.TheVariants as reply
use Rattle.lj_session.specs.declared.interactions.Interactions.{Interactions}
use Rattle.lj_session.specs.declared.interactions.Interactions.TheVariants.{Pure, Mixed}
use Rattle.lj_session.specs.Interactions.{load_reply}
use Rattle.lj_session.specs.Users.{Session, User, atoms_of, branches_used}
use Rattle.lj_session.specs.Loads.{admission, body_or_refusal, session_read, refusal_unless}
use Rattle.lj_session.specs.Answers.{value_or_refusal, session_of, simulation_saved, atom_or_refusal, can_advance, command_result, answer, reply_and_user}
use Rattle.lj_session.specs.OwnerLaws.{session_listed}

-- what a command comes to
abbrev Outcome : Type 0
Outcome = Result (Reply × User) Refusal

-- the session that is listed is one of the user
abbrev pub IsThere : Reply × User → Type 0
IsThere told = IfSome (session_listed told.0) (λ name. IsSome (value_named name told.1.sessions))

-- a refusal lists no session, so it is enough to look at what comes after each test
after : {A : Type 0} (user : User) (m : Result A Refusal) (f : A → Outcome) → ((x : A) → IsThere (reply_and_user user (f x)))
    → IsThere (reply_and_user user (m >>= f))
after user (Ok x) f h = h x
after user (Err refusal) f h = tt

-- a session that was found is listed
found : (user : User) (name : List ℕ) (made : Reply) → session_listed made ≡ Some name → (session : Option Session)
    → value_named name user.sessions ≡ session → IsThere (reply_and_user user (value_or_refusal session NoSession >>= λ s. Ok (made, user)))
found user name made lists None e = tt
found user name made lists (Some session) e = rw (lists, e) refl

-- what is loaded is not listed
loaded-lists : (interactions : Interactions) (name : List ℕ) (atoms : ℕ) → session_listed (load_reply interactions name atoms) ≡ None
loaded-lists (Pure sigma step_factor) name atoms = refl
loaded-lists (Mixed symbols first unlike second) name atoms = refl

pub listed : (user : User) (command : Command) (mark : Bool) → IsThere (answer user command mark)
unfolding command_result
listed user (Load load) mark = after user (admission user load) _ (λ mix. after user (body_or_refusal load.body mark) _ (λ body.
    after user (session_read user mix load body) _ (λ session. rw (loaded-lists load.interactions load.name (atoms_of session)) tt)))
listed user (Advance name n) mark = after user (session_of user name) _ (λ session. after user (refusal_unless (can_advance session n) StepRange) _ (λ near. tt))
listed user (Start name n) mark = after user (session_of user name) _ (λ session. after user (refusal_unless (can_advance session n) StepRange) _ (λ near. tt))
listed user (Reverse name) mark = after user (session_of user name) _ (λ session. tt)
listed user (Branch name branch) mark = after user (session_of user name) _ (λ session.
    after user (refusal_unless (not (is_some (value_named branch session.saved))) BranchExists) _ (λ new.
    after user (refusal_unless (nat_lt (branches_used user) user.quota.branches) QuotaBranches) _ (λ room.
    after user (refusal_unless (not mark) Memory) _ (λ held. tt))))
listed user (Restore name branch) mark = after user (session_of user name) _ (λ session. after user (simulation_saved session branch) _ (λ sim. tt))
listed user (Forget name branch) mark = after user (session_of user name) _ (λ session. after user (simulation_saved session branch) _ (λ sim. tt))
listed user (Tug name atom x y z) mark = after user (session_of user name) _ (λ session. after user (atom_or_refusal session atom) _ (λ there. tt))
listed user (Measure name) mark = after user (session_of user name) _ (λ session. tt)
listed user (Show name atom) mark = after user (session_of user name) _ (λ session. after user (atom_or_refusal session atom) _ (λ there. tt))
listed user (Dump name) mark = found user name (reply.Dumped name) refl (value_named name user.sessions) refl
listed user ListSessions mark = tt
listed user (ListBranches name) mark = found user name (reply.ListedBranches name) refl (value_named name user.sessions) refl
listed user (Unload name) mark = after user (session_of user name) _ (λ session. tt)
listed user Bye mark = tt
