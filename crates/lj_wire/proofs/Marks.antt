-- The mark of an answer, read off its text.
use Rattle.std.proofs.Common.{◌≡◌, ℕ, ◌+◌, Bool, true, false, not, List, Result, Ok, Err, ◌⊎◌, inl, inr, refl, sym, ◌∙◌}
use Rattle.std.proofs.Common.{ap}
use Rattle.std.specs.Fmt.{digits}
use Rattle.std.specs.Prelude.{is_some, nat_lt, nat_le}
use Rattle.lj_ring.specs.Mix.{Mix}
use Rattle.lj_xyz.specs.declared.xyz_fault.XyzFault.{XyzFault}
use Rattle.lj_xyz.specs.declared.xyz_fault.XyzKind.{XyzKind}
use Rattle.lj_xyz.specs.declared.xyz_fault.XyzKind.TheVariants as kind
use Rattle.lj_xyz.specs.declared.atom_row.AtomRow.{AtomRow}
use Rattle.lj_xyz.specs.Atoms.{◌>>=◌}
use Rattle.lj_xyz.specs.Lines.{lines_of}
use Rattle.lj_xyz.specs.Reading.{reading}
use Rattle.lj_session.specs.declared.body.LoadBody.{LoadBody}
use Rattle.lj_session.specs.declared.body.LoadBody.TheVariants.{Unread, Lost, Read}
use Rattle.lj_session.specs.declared.command.Load.{Load}
use Rattle.lj_session.specs.declared.command.Command.{Command}
use Rattle.lj_session.specs.declared.command.Command.TheVariants.{Load as LoadCommand, Advance, Start, Reverse, Branch, Restore}
use Rattle.lj_session.specs.declared.command.Command.TheVariants.{Forget, Tug}
use Rattle.lj_session.specs.declared.command.Command.TheVariants.{Measure, Show, Dump, List as ListSessions}
use Rattle.lj_session.specs.declared.command.Command.TheVariants.{ListBranches, Unload, Bye}
use Rattle.lj_session.specs.declared.refusal.Refusal.{Refusal}
use Rattle.lj_session.specs.declared.refusal.Refusal.TheVariants.{BranchExists, QuotaAtoms, QuotaBranches, Xyz, Memory}
use Rattle.lj_session.specs.declared.reply.Reply.{Reply}
use Rattle.lj_session.specs.declared.reply.Reply.TheVariants as reply
use Rattle.lj_session.specs.declared.interactions.Interactions.{Interactions}
use Rattle.lj_session.specs.declared.interactions.Interactions.TheVariants.{Pure, Mixed}
use Rattle.lj_session.specs.Interactions.{load_reply, symbols_of}
use Rattle.lj_session.specs.Users.{Session, User, with_session, atoms_of, atoms_used, branches_used}
use Rattle.lj_branch.specs.Named.{value_named, with_value}
use Rattle.lj_session.specs.Loads.{refusal_unless, admission, body_or_refusal, session_of_frames, frames_or_refusal, reading_mode}
use Rattle.lj_session.specs.Loads.{session_within_quota, session_read}
use Rattle.lj_session.specs.Answers.{session_of, command_result, reply_and_user}
use Rattle.lj_wire.specs.declared.item.Item.{Item}
use Rattle.lj_wire.specs.declared.item.Item.TheVariants as items
use Rattle.lj_wire.specs.ReplyTexts.{text, is_memory}
use Rattle.lj_wire.specs.Told.{item_text}

-- what a command comes to, and what is then told
abbrev Outcome : Type 0
Outcome = Result (Reply × User) Refusal

abbrev outcome_told : User → Outcome → List ℕ × User
outcome_told user outcome = let a = reply_and_user user outcome in (text a.1 a.0, a.1)

-- the mark changes nothing, or it makes the difference between the memory refusal and another reply
abbrev Tells : User → (Bool → Outcome) → Type 0
Tells user outcome =
    ((mark : Bool) → outcome mark ≡ outcome false)
    ⊎ (outcome true ≡ Err Memory) × (is_memory (outcome_told user (outcome false)).0 ≡ false)

memory_told : (user : User) → is_memory (outcome_told user (Err Memory)).0 ≡ true
unfolding text digits
memory_told user = refl

marked_by : (user : User) (outcome : Bool → Outcome) → Tells user outcome → (mark : Bool)
    → outcome_told user (outcome mark) ≡ outcome_told user (outcome (is_memory (outcome_told user (outcome mark)).0))
marked_by user outcome (inl same) mark =
    ap (outcome_told user) (same mark ∙ sym (same (is_memory (outcome_told user (outcome mark)).0)))
marked_by user outcome (inr differs) true =
    let read : is_memory (outcome_told user (outcome true)).0 ≡ true =
    ap (λ r. is_memory (outcome_told user r).0) differs.0 ∙ memory_told user in
    sym (ap (λ m. outcome_told user (outcome m)) read)
marked_by user outcome (inr differs) false = sym (ap (λ m. outcome_told user (outcome m)) differs.1)

kind_told : (user : User) (k : XyzKind) (line : ℕ)
    → is_memory (outcome_told user (Err (Xyz (record { kind = k; line = line })))).0 ≡ false
unfolding text digits
kind_told user kind.Count line = refl
kind_told user kind.Short line = refl
kind_told user kind.Symbol line = refl
kind_told user kind.Number line = refl
kind_told user kind.Range line = refl
kind_told user kind.Pair line = refl
kind_told user kind.Species line = refl

-- what a load does with its session
abbrev loads : User → List ℕ → Interactions → Session → Outcome
loads user name interactions session = Ok (load_reply interactions name (atoms_of session), with_session name session user)

within_told : (user : User) (name : List ℕ) (interactions : Interactions) (session : Session) (fits : Bool)
    → is_memory (outcome_told user ((refusal_unless fits QuotaAtoms >>= λ room. Ok session) >>= loads user name interactions)).0
    ≡ false
unfolding text digits
within_told user name (Pure sigma step_factor) session true = refl
within_told user name (Mixed symbols first unlike second) session true = refl
within_told user name interactions session false = refl

read_told : (user : User) (name : List ℕ) (interactions : Interactions) (mix : Mix)
    (read : Result (List (List AtomRow)) XyzFault)
    → is_memory (outcome_told user ((frames_or_refusal read
    >>= λ frames. session_within_quota user (session_of_frames mix (symbols_of interactions) frames))
    >>= loads user name interactions)).0 ≡ false
read_told user name interactions mix (Ok frames) =
    let session = session_of_frames mix (symbols_of interactions) frames in
    within_told user name interactions session (nat_le (atoms_used user + atoms_of session) user.quota.atoms)
read_told user name interactions mix (Err fault) = kind_told user fault.kind fault.line

load_tells : (user : User) (load : Load) (body : LoadBody) (mixture : Result Mix Refusal)
    → Tells user (λ mark. mixture >>= λ mix. body_or_refusal body mark
    >>= λ bytes. session_read user mix load bytes >>= loads user load.name load.interactions)
load_tells user load body (Err refusal) = inl (λ mark. refl)
load_tells user load Unread (Ok mix) = inl (λ mark. refl)
load_tells user load Lost (Ok mix) = inl (λ mark. refl)
load_tells user load (Read bytes) (Ok mix) = inr (
  refl,
  read_told user load.name load.interactions mix
      (reading (symbols_of load.interactions) (reading_mode load.mode) (lines_of bytes)),
)

-- what a BRANCH does with its session
abbrev branched : User → List ℕ → List ℕ → Session → Outcome
branched user name branch session =
    Ok (
      reply.Branched name branch session.sim.step,
      with_session name (record session { saved = with_value branch session.sim session.saved }) user,
    )

room_tells : (user : User) (name branch : List ℕ) (session : Session) (new room : Bool)
    → Tells user (λ mark. refusal_unless new BranchExists >>= λ n. refusal_unless room QuotaBranches >>= λ r. refusal_unless (not mark) Memory
    >>= λ h. branched user name branch session)
unfolding text digits
room_tells user name branch session true true = inr (refl, refl)
room_tells user name branch session true false = inl (λ mark. refl)
room_tells user name branch session false room = inl (λ mark. refl)

branch_tells : (user : User) (name branch : List ℕ) (found : Result Session Refusal)
    → Tells user (λ mark. found >>= λ session. refusal_unless (not (is_some (value_named branch session.saved))) BranchExists >>= λ n.
    refusal_unless (nat_lt (branches_used user) user.quota.branches) QuotaBranches >>= λ r.
    refusal_unless (not mark) Memory >>= λ h. branched user name branch session)
branch_tells user name branch (Err refusal) = inl (λ mark. refl)
branch_tells user name branch (Ok session) =
    room_tells user name branch session (not (is_some (value_named branch session.saved)))
    (nat_lt (branches_used user) user.quota.branches)

command_tells : (user : User) (command : Command) → Tells user (λ mark. command_result user command mark)
unfolding command_result
command_tells user (LoadCommand load) = load_tells user load load.body (admission user load)
command_tells user (Advance name n) = inl (λ mark. refl)
command_tells user (Start name n) = inl (λ mark. refl)
command_tells user (Reverse name) = inl (λ mark. refl)
command_tells user (Branch name branch) = branch_tells user name branch (session_of user name)
command_tells user (Restore name branch) = inl (λ mark. refl)
command_tells user (Forget name branch) = inl (λ mark. refl)
command_tells user (Tug name atom x y z) = inl (λ mark. refl)
command_tells user (Measure name) = inl (λ mark. refl)
command_tells user (Show name atom) = inl (λ mark. refl)
command_tells user (Dump name) = inl (λ mark. refl)
command_tells user ListSessions = inl (λ mark. refl)
command_tells user (ListBranches name) = inl (λ mark. refl)
command_tells user (Unload name) = inl (λ mark. refl)
command_tells user Bye = inl (λ mark. refl)

pub marked : (user : User) (item : Item) (mark : Bool) → item_text user item mark
    ≡ item_text user item (is_memory (item_text user item mark).0)
marked user (items.Command command) mark =
    marked_by user (λ m. command_result user command m) (command_tells user command) mark
marked user (items.Bad fault) mark = refl
marked user (items.Last fault) mark = refl
