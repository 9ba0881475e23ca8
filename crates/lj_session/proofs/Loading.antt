-- LOAD and LOADMIX, case by case.
use Rattle.std.proofs.Common.{◌≡◌, ℕ, ◌+◌, Bool, true, false, List, length, Option, Some, None, Result, Ok, Err, nat_le}
use Rattle.std.proofs.Common.{nat_lt, refl, sym, ap, ◌∙◌, subst}
use Rattle.std.specs.Prelude.{is_some}
use Rattle.std.specs.Option.{option_map}
use Rattle.std.proofs.lemmas.Bool.{true≢false}
use Rattle.std.proofs.lemmas.List.{length-map}
use Rattle.lj_ring.specs.Mix.{Mix, edge_of}
use Rattle.lj_xyz.specs.declared.xyz_fault.XyzFault.{XyzFault}
use Rattle.lj_xyz.specs.declared.xyz_fault.XyzError.{XyzError}
use Rattle.lj_xyz.specs.declared.xyz_fault.XyzError.TheVariants as errors
use Rattle.lj_xyz.specs.declared.atom_row.AtomRow.{AtomRow}
use Rattle.lj_xyz.specs.Lines.{lines_of}
use Rattle.lj_xyz.specs.Reading.{reading, FailsAs}
use Rattle.lj_xyz.specs.Symbols.{SymbolPair}
use Rattle.lj_session.specs.declared.body.LoadBody.{LoadBody}
use Rattle.lj_session.specs.declared.body.LoadBody.TheVariants.{Unread, Lost, Read}
use Rattle.lj_session.specs.declared.command.Load.{Load}
use Rattle.lj_session.specs.declared.command.Command.TheVariants as commands
use Rattle.lj_session.specs.declared.refusal.Refusal.{Refusal}
use Rattle.lj_session.specs.declared.refusal.Refusal.TheVariants.{Exists, QuotaSessions, QuotaAtoms, Xyz, Memory}
use Rattle.lj_branch.specs.Named.{value_named}
use Rattle.lj_session.specs.Users.{Session, User, with_session, atoms_of, atoms_used, sessions_used}
use Rattle.lj_session.specs.Loads.{admission, body_or_refusal, reading_mode, place_in}
use Rattle.lj_session.specs.Loads.{session_from, session_of_frames}
use Rattle.lj_session.specs.Interactions.{load_reply, mix_of_interactions, nano_or_zero, symbols_of}
use Rattle.lj_session.specs.Answers.{command_result}
use Rattle.lj_session.specs.ParsedLoads.{frames_of, last_of, held_from}
use Rattle.lj_session.specs.Faults.{xyz_refusal}
use Rattle.lj_session.specs.UserState.{LiveSession, UserState, IsIdle, StepsAfterLoad, Performs, settled_session, user_of, live_session, with_live_session}
use Rattle.lj_step.specs.OpenSteps.{kind_of}
use Rattle.lj_session.proofs.Entries.{by_test, named-put_any, named-seen}
use Rattle.lj_session.proofs.Holding.{user_of-put}
use Rattle.lj_session.proofs.Others.{others-put}
use Rattle.lj_session.proofs.Performing.{done, refused, starved}

-- the session of the frames that were read
pub session-frames : (mix : Mix) (symbols : Option SymbolPair) (first : List AtomRow) (second : Option (List AtomRow))
    → session_of_frames mix symbols (frames_of first second) ≡ session_from mix symbols first (last_of first second)
session-frames mix symbols first None = refl
session-frames mix symbols first (Some second) = refl

-- a load that memory is refused to has no body
body-refused : (body : LoadBody) → body_or_refusal body true ≡ Err Memory
body-refused Unread = refl
body-refused Lost = refl
body-refused (Read body) = refl

module _ (user : User) (load : Load) where
  pub admitted-exists : is_some (value_named load.name user.sessions) ≡ true → admission user load ≡ Err Exists
  admitted-exists taken = rw taken refl

  module _ (new : is_some (value_named load.name user.sessions) ≡ false) where
    pub admitted-over : nat_lt (sessions_used user) user.quota.sessions ≡ false → admission user load ≡ Err QuotaSessions
    admitted-over over = rw (new, over) refl

    module _ (room : nat_lt (sessions_used user) user.quota.sessions ≡ true) where
      pub admitted-mix : admission user load ≡ mix_of_interactions (nano_or_zero load.edge) load.interactions
      admitted-mix = rw (new, room) refl

  pub load-refused : (mark : Bool) (refusal : Refusal) → admission user load ≡ Err refusal
      → command_result user (commands.Load load) mark ≡ Err refusal
  unfolding command_result
  load-refused mark refusal e = rw e refl

  -- what a load that is admitted may rest on
  pub new-admitted : (mix : Mix) → admission user load ≡ Ok mix
      → (is_some (value_named load.name user.sessions) ≡ false) × (nat_lt (sessions_used user) user.quota.sessions ≡ true)
  new-admitted mix admission = by_test (is_some (value_named load.name user.sessions))
      (λ taken. absurd (not_refused Exists (sym (admitted-exists taken) ∙ admission)))
      (λ new. (
        new,
        by_test (nat_lt (sessions_used user) user.quota.sessions)
            (λ room. room)
            (λ over. absurd (not_refused QuotaSessions (sym (admitted-over new over) ∙ admission))),
      ))
    where
      not_refused : (refusal : Refusal) → ◌≡◌ {A = Result Mix Refusal} (Err refusal) (Ok mix) → ⊥
      not_refused refusal e = cc

  module _ (mix : Mix) (is_mix : admission user load ≡ Ok mix) where
    pub load-memory : command_result user (commands.Load load) true ≡ Err Memory
    unfolding command_result
    load-memory = rw (is_mix, body-refused load.body) refl

    module _ (body : List ℕ) (session : load.body ≡ Read body) where
      pub load-fault : (fault : XyzFault) → reading (symbols_of load.interactions) (reading_mode load.mode) (lines_of body) ≡ Err fault
          → command_result user (commands.Load load) false ≡ Err (Xyz fault)
      unfolding command_result
      load-fault fault read = rw (is_mix, session, read) refl

      module _ (first : List AtomRow) (second : Option (List AtomRow))
          (read : reading (symbols_of load.interactions) (reading_mode load.mode) (lines_of body) ≡ Ok (frames_of first second)) where
        abbrev session_loaded : Session
        session_loaded = session_from mix (symbols_of load.interactions) first (last_of first second)

        pub load-over : nat_le (atoms_used user + atoms_of session_loaded) user.quota.atoms ≡ false
            → command_result user (commands.Load load) false ≡ Err QuotaAtoms
        unfolding command_result
        load-over over = rw (is_mix, session, read, session-frames mix (symbols_of load.interactions) first second, over) refl

        pub load-done : nat_le (atoms_used user + atoms_of session_loaded) user.quota.atoms ≡ true
            → command_result user (commands.Load load) false
            ≡ Ok (load_reply load.interactions load.name (atoms_of session_loaded), with_session load.name session_loaded user)
        unfolding command_result
        load-done room = rw (is_mix, session, read, session-frames mix (symbols_of load.interactions) first second, room) refl

-- how many atoms a session has that opens with frames of one count
pub atoms-opened : (mix : Mix) (symbols : Option SymbolPair) (first last : List AtomRow) → length last ≡ length first
    → atoms_of (session_from mix symbols first last) ≡ length first
atoms-opened mix symbols first last same = length-map last (place_in (edge_of mix)) ∙ same

-- a session that has just been loaded is idle
idle_of : (made after : LiveSession) → Some made ≡ Some after → made.pending ≡ 0 → kind_of made.live.part ≡ None → IsIdle after
idle_of made after is pending closed = subst IsIdle (same made after is) (record { pending = pending; closed = closed })
  where
    same : (a b : LiveSession) → Some a ≡ Some b → a ≡ b
    same a b e = cc

same_name : (name other : List ℕ) → Some other ≡ Some name → name ≡ other
same_name name other e = cc

module _ (old new : UserState) (load : Load) (mix : Mix) (is_mix : admission (user_of old) load ≡ Ok mix) where
  -- the name is new among those that are held
  pub absent-admitted : live_session old load.name ≡ None
  absent-admitted =
      none-held (live_session old load.name) (sym (ap is_some (named-seen settled_session load.name old.sessions))
      ∙ (new-admitted (user_of old) load mix is_mix).0)
    where
      none-held : (o : Option LiveSession) → is_some (option_map settled_session o) ≡ false → o ≡ None
      none-held None h = refl
      none-held (Some session) h = absurd (true≢false h)

  pub load-starved : Performs old (commands.Load load) (Err Memory) new
  load-starved = starved old new _ (load-memory (user_of old) load mix is_mix)

  module _ (body : List ℕ) (session : load.body ≡ Read body) where
    -- a body that is not read is refused for its fault, or for want of memory
    pub not-read : (error : XyzError) → FailsAs error (reading (symbols_of load.interactions) (reading_mode load.mode) (lines_of body))
        → Performs old (commands.Load load) (Err (xyz_refusal error)) new
    not-read (errors.Fault fault) read =
        refused old new _ _ (load-fault (user_of old) load mix is_mix body session fault read)
    not-read errors.Memory read = load-starved

    module _ (first : List AtomRow) (second : Option (List AtomRow))
        (read : reading (symbols_of load.interactions) (reading_mode load.mode) (lines_of body) ≡ Ok (frames_of first second))
        (same : length (last_of first second) ≡ length first) where
      pub too-many : nat_le (atoms_used (user_of old) + length first) old.quota.atoms ≡ false
          → Performs old (commands.Load load) (Err QuotaAtoms) new
      too-many over = refused old new _ _ (load-over (user_of old) load mix is_mix body session first second read
          (ap (λ n. nat_le (atoms_used (user_of old) + n) old.quota.atoms)
          (atoms-opened mix (symbols_of load.interactions) first (last_of first second) same) ∙ over))

      pub load-loads : (atoms : ℕ) → atoms ≡ length first
          → nat_le (atoms_used (user_of old) + length first) old.quota.atoms ≡ true
          → new ≡ with_live_session load.name (held_from mix (symbols_of load.interactions) first (last_of first second)) old
          → Performs old (commands.Load load) (Ok (load_reply load.interactions load.name atoms)) new
      load-loads atoms its room is = done old new _ _
          (load-done (user_of old) load mix is_mix body session first second read
          (ap (λ n. nat_le (atoms_used (user_of old) + n) old.quota.atoms) count ∙ room)
          ∙ (ap (λ n. Ok (
            load_reply load.interactions load.name n,
            with_session load.name (session_from mix (symbols_of load.interactions) first (last_of first second)) (user_of old),
          )) (count ∙ sym its)
          ∙ ap (λ (u : User). Ok (load_reply load.interactions load.name atoms, u))
          (sym (ap user_of is ∙ user_of-put old load.name (held_from mix (symbols_of load.interactions) first (last_of first second))))))
          (λ other apart. ap (λ (o : UserState). live_session o other) is
          ∙ others-put old load.name (held_from mix (symbols_of load.interactions) first (last_of first second)) other apart)
          (λ name after value_named there. subst (λ o. StepsAfterLoad o after)
          (sym (ap (live_session old) (same_name name load.name value_named) ∙ absent-admitted))
          (idle_of (held_from mix (symbols_of load.interactions) first (last_of first second)) after
          (sym (named-put_any name old.sessions (held_from mix (symbols_of load.interactions) first (last_of first second)))
          ∙ ap (λ n. live_session (with_live_session n (held_from mix (symbols_of load.interactions) first (last_of first second)) old) name) (same_name name load.name value_named)
          ∙ ap (λ (o : UserState). live_session o name) (sym is) ∙ there) refl refl))
        where
          count : atoms_of (session_from mix (symbols_of load.interactions) first (last_of first second)) ≡ length first
          count = atoms-opened mix (symbols_of load.interactions) first (last_of first second) same
