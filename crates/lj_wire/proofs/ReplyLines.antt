-- The lines of replies: of sessions in a list, of what is saved, and of atoms in a frame.
use Rattle.std.proofs.lemmas.Grind.{flat_map-append}
use Rattle.std.proofs.Common.{append_assoc, append-nil, Bool, true, false, not, cond, nat_lt, one-add, ◌≡◌, ℕ, zero}
use Rattle.std.proofs.Common.{suc, ◌+◌, ◌-◌, ◌<◌, ◌≤◌, ℤ, List, [], ◌∷◌, ◌++◌, length, map, Option, Some, None, refl, sym}
use Rattle.std.proofs.Common.{ap, ◌∙◌, subst, arith, rules, slice_get, slice_index_or, IfSome}
use Rattle.std.specs.Fmt.{decimal, signed_decimal}
use Rattle.std.specs.List.{join_with_byte, flat_map, position, position_or_len}
use Rattle.std.specs.Map.{lookup}
use Rattle.std.specs.Str.{bytes_eq}
use Rattle.std.proofs.lemmas.Map.Made.{lookup-map_values}
use Rattle.std.proofs.lemmas.Bool.{ltb-false}
use Rattle.std.proofs.lemmas.List.{length-map}
use Rattle.std.proofs.lemmas.Option.{slice_get-get_or}
use Rattle.std.proofs.lemmas.List.Quantifiers.{position-Some}
use Rattle.std.specs.Option.{option_map, option_and_then, ForSome}
use Rattle.std.proofs.lemmas.Option.{slice_get-map, slice_get_past}
use Rattle.lj_ring.specs.Mix.{edge_of}
use Rattle.lj_ring.specs.declared.coordinates.Place.{Place}
use Rattle.lj_step.specs.Motion.{Simulation}
use Rattle.lj_step.specs.Sim.{Sim}
use Rattle.lj_branch.specs.Named.{value_named}
use Rattle.lj_session.specs.UserState.{LiveSession, UserState, live_session, live_session_at, loaded_names, user_of, as_session, settled_session, as_entry}
use Rattle.lj_session.specs.UserState.{pending_in}
use Rattle.lj_session.specs.Users.{Session}
use Rattle.lj_session.proofs.PendingSteps.{count-meant, meant-settled}
use Rattle.lj_session.proofs.Holding.{pending-of}
use Rattle.lj_wire.specs.LineParts.{blank_and}
use Rattle.lj_wire.specs.ReplyTexts.{line_of, session_line, branch_line, atom_line, atom_lines}

-- the line of a session, by what its readers answer
session_entry_line : (entry : Option (List ℕ × LiveSession)) (name : List ℕ) (step : ℤ) (live : Sim)
    (saved : List (List ℕ × Simulation))
    → option_map (λ e. e.0) entry ≡ Some name
    → option_map (λ session. (settled_session session).sim.step) (option_map (λ e. e.1) entry) ≡ Some step
    → option_map (λ session. session.live) (option_map (λ e. e.1) entry) ≡ Some live
    → option_map (λ session. session.saved) (option_map (λ e. e.1) entry) ≡ Some saved
    → Some (line_of (name ∷ signed_decimal step ∷ decimal (length live.sim.cur) ∷ decimal (length saved) ∷ []))
    ≡ option_map session_line (option_map as_entry entry)
session_entry_line None name step live saved value_named is_step is_live is_saved = cc
session_entry_line (Some entry) name step live saved value_named is_step is_live is_saved =
    let n : entry.0 ≡ name = cc in
    let t : (settled_session entry.1).sim.step ≡ step = cc in
    let l : entry.1.live ≡ live = cc in
    let s : entry.1.saved ≡ saved = cc in
    rw (← n, ← t, ← l, ← s, count-meant entry.1) refl

pub session_line_at : (state : UserState) (i : ℕ) (name : List ℕ) (step : ℤ) (live : Sim) (saved : List (List ℕ × Simulation))
    → slice_get (loaded_names state) i ≡ Some name
    → option_map (λ session. (settled_session session).sim.step) (live_session_at state i) ≡ Some step
    → option_map (λ session. session.live) (live_session_at state i) ≡ Some live
    → option_map (λ session. session.saved) (live_session_at state i) ≡ Some saved
    → Some (line_of (name ∷ signed_decimal step ∷ decimal (length live.sim.cur) ∷ decimal (length saved) ∷ []))
    ≡ option_map session_line (slice_get (user_of state).sessions i)
session_line_at state i name step live saved value_named is_step is_live is_saved =
    rw (slice_get-map as_entry state.sessions i)
    (session_entry_line (slice_get state.sessions i) name step live saved
    (sym (slice_get-map (λ e. e.0) state.sessions i) ∙ value_named) is_step is_live is_saved)

-- atom t's line in a frame
pub atom_lines-get : (edge : ℕ) (symbols : List (List ℕ)) (places : List Place) (t : ℕ) (symbol : List ℕ)
    → slice_get symbols t ≡ Some symbol → t < length places
    → Some (atom_line edge symbol (slice_index_or places t (record { x = 0; y = 0; z = 0 })))
    ≡ slice_get (atom_lines edge symbols places) t
atom_lines-get edge [] places t symbol there within = cc
atom_lines-get edge (s ∷ symbols) [] t symbol there within = absurd (omega arith)
atom_lines-get edge (s ∷ symbols) (p ∷ places) zero symbol there within = let e : s ≡ symbol = cc in rw (← e) refl
atom_lines-get edge (s ∷ symbols) (p ∷ places) (suc t) symbol there within =
    atom_lines-get edge symbols places t symbol there (omega arith)

-- there is none past the last atom
pub atom_lines-past : (edge : ℕ) (symbols : List (List ℕ)) (places : List Place) (t : ℕ)
    → length places ≤ t → slice_get (atom_lines edge symbols places) t ≡ None
atom_lines-past edge [] places t past = refl
atom_lines-past edge (s ∷ symbols) [] t past = refl
atom_lines-past edge (s ∷ symbols) (p ∷ places) zero past = absurd (omega arith)
atom_lines-past edge (s ∷ symbols) (p ∷ places) (suc t) past = atom_lines-past edge symbols places t (omega arith)

-- words with a blank between each two are the first word, and then each other one after a blank
pub join-after : (word : List ℕ) (words : List (List ℕ))
    → join_with_byte 32 (word ∷ words) ≡ word ++ flat_map blank_and words
join-after word [] = search rules
join-after word (next ∷ words) = ap (λ t. word ++ (32 ∷ t)) (join-after next words)

-- atom t's line in the frame of a session, by what its readers answer
pub held_atom_line : (entry : Option LiveSession) (edge t : ℕ) (live : Sim) (symbol line : List ℕ)
    → option_map (λ session. edge_of session.live.composition.mix) entry ≡ Some edge
    → option_map (λ session. session.live) entry ≡ Some live
    → IfSome entry (λ session. slice_get session.symbols t ≡ Some symbol)
    → ForSome entry (λ session. t < length session.live.sim.cur)
    → line ≡ atom_line edge symbol (slice_index_or live.sim.cur t (record { x = 0; y = 0; z = 0 }))
    → IfSome entry (λ session. Some line ≡ slice_get (atom_lines (edge_of session.live.composition.mix) session.symbols session.live.sim.cur) t)
held_atom_line None edge t live symbol line is_edge is_live is_symbol within is_line = tt
held_atom_line (Some session) edge t live symbol line is_edge is_live is_symbol within is_line =
    let e : edge_of session.live.composition.mix ≡ edge = cc in
    let l : session.live ≡ live = cc in
    let text : line ≡ atom_line (edge_of session.live.composition.mix) symbol
    (slice_index_or session.live.sim.cur t (record { x = 0; y = 0; z = 0 })) = rw (e, l) is_line in
    ap Some text ∙ atom_lines-get (edge_of session.live.composition.mix) session.symbols session.live.sim.cur t
    symbol is_symbol (within session refl)

-- parts of a line, grouped another way
regrouped : (a b c d e f g h last : List ℕ)
    → ((((a ++ b ++ c ++ d ++ e) ++ f) ++ g) ++ h) ++ last ≡ (a ++ (b ++ (c ++ (d ++ (e ++ (f ++ (g ++ h))))))) ++ last
regrouped a b c d e f g h last = simp append_assoc

-- words after words, and some more after them
pub words_text : (first verb name step atoms : List ℕ) (momentum : List (List ℕ)) (kinetic potential : List ℕ)
    → ((((first ++ blank_and verb ++ blank_and name ++ blank_and step ++ blank_and atoms)
    ++ flat_map blank_and momentum)
    ++ blank_and kinetic) ++ blank_and potential) ++ 10 ∷ []
    ≡ line_of (first ∷ verb ∷ name ∷ step ∷ atoms ∷ (momentum ++ kinetic ∷ potential ∷ []))
words_text first verb name step atoms momentum kinetic potential =
    let words : List (List ℕ) = verb ∷ name ∷ step ∷ atoms ∷ (momentum ++ kinetic ∷ potential ∷ []) in
    let split : flat_map blank_and words ≡ blank_and verb ++ (blank_and name ++ (blank_and step
    ++ (blank_and atoms ++ (flat_map blank_and momentum ++ (blank_and kinetic ++ blank_and potential))))) =
    ap (λ t. blank_and verb ++ (blank_and name ++ (blank_and step ++ (blank_and atoms ++ t))))
    (flat_map-append blank_and momentum (kinetic ∷ potential ∷ [])
    ∙ ap (λ t. flat_map blank_and momentum ++ (blank_and kinetic ++ t)) (append-nil (blank_and potential))) in
    regrouped first (blank_and verb) (blank_and name) (blank_and step) (blank_and atoms) (flat_map blank_and momentum)
    (blank_and kinetic) (blank_and potential) (10 ∷ [])
    ∙ ap (λ t. (first ++ t) ++ 10 ∷ []) (sym split) ∙ ap (λ t. t ++ 10 ∷ []) (sym (join-after first words))

-- what stands under a name stands at its first place
lookup-position : {K X : Type 0} (test : K → Bool) (entries : List (K × X))
    → lookup test entries ≡ option_map (λ e. e.1) (slice_get entries (position_or_len test (map (λ e. e.0) entries)))
lookup-position test [] = refl
lookup-position {K} {X} test (e ∷ entries) =
    let n = position_or_len test (map (λ e. e.0) entries) in
    elim (test e.0) as (λ b. cond b (Some e.1) (lookup test entries)
    ≡ option_map {T = K × X} {U = X} (λ e. e.1) (slice_get (e ∷ entries) (cond (not b) (1 + n) 0)))
    [ true ↦ refl | false ↦ rw one-add (lookup-position test entries) ]

-- the session of a name is the one at the place of the name
held_under : (state : UserState) (name : List ℕ) → value_named name state.sessions
    ≡ option_and_then (live_session_at state) (position (bytes_eq name) (loaded_names state))
held_under state name =
    let n = position_or_len (bytes_eq name) (loaded_names state) in
    let found = lookup-position (bytes_eq name) state.sessions in
    at (nat_lt n (length (loaded_names state))) refl found
  where
    at : (b : Bool) → nat_lt (position_or_len (bytes_eq name) (loaded_names state)) (length (loaded_names state)) ≡ b
        → value_named name state.sessions ≡ live_session_at state (position_or_len (bytes_eq name) (loaded_names state))
        → value_named name state.sessions ≡ option_and_then (live_session_at state)
        (cond b (Some (position_or_len (bytes_eq name) (loaded_names state))) None)
    at true within found = found
    at false past found =
        let beyond : length state.sessions ≤ position_or_len (bytes_eq name) (loaded_names state) =
        omega (arith, ltb-false _ _ past, length-map state.sessions (λ e. e.0)) in
        found ∙ ap (option_map (λ e. e.1)) (slice_get_past state.sessions _ beyond)

-- the session of a name in the user that is meant, by the place of the name
pub named-index : (state : UserState) (name : List ℕ) (index : Option ℕ) → index ≡ position (bytes_eq name) (loaded_names state)
    → value_named name (user_of state).sessions ≡ option_map settled_session (option_and_then (live_session_at state) index)
named-index state name index is_index =
    lookup-map_values settled_session (bytes_eq name) state.sessions
    ∙ ap (option_map settled_session) (rw is_index (held_under state name))

-- the place of a name is one of a session
pub index_within : (state : UserState) (name : List ℕ) (i : ℕ) → Some i ≡ position (bytes_eq name) (loaded_names state)
    → i < length state.sessions
index_within state name i found =
    omega (
      arith,
      (position-Some (bytes_eq name) (loaded_names state) i [] (sym found)).0,
      length-map state.sessions (λ e. e.0),
    )

-- what is true of the session at the place of a name is true of the session of that name
pub under_name : (state : UserState) (name : List ℕ) (i : ℕ) (P : Option Session → Type 0)
    → Some i ≡ position (bytes_eq name) (loaded_names state)
    → IfSome (live_session_at state i) (λ session. P (Some (settled_session session))) → P (value_named name (user_of state).sessions)
under_name state name i P found holds =
    let within : i < length state.sessions = index_within state name i found in
    let is_named = named-index state name (Some i) found in
    there (live_session_at state i) refl is_named holds within
  where
    there : (entry : Option LiveSession) → live_session_at state i ≡ entry
        → value_named name (user_of state).sessions ≡ option_map settled_session entry
        → IfSome entry (λ session. P (Some (settled_session session))) → i < length state.sessions
        → P (value_named name (user_of state).sessions)
    there None gone is_named holds within =
        let past : slice_get (loaded_names state) i ≡ None =
        slice_get-map (λ e. e.0) state.sessions i ∙ lost (slice_get state.sessions i) gone in
        let here = slice_get-get_or (loaded_names state) i [] (omega (arith, length-map state.sessions (λ e. e.0))) in
        cc
      where
        lost : (entry : Option (List ℕ × LiveSession)) → option_map (λ e. e.1) entry ≡ None
            → option_map (λ e. e.0) entry ≡ None
        lost None h = refl
        lost (Some e) h = cc
    there (Some session) is_held is_named holds within = subst P (sym is_named) holds

-- where the session of a name has no pending steps, the one at the place of the name has none
pub settled_at : (state : UserState) (name : List ℕ) (i : ℕ) → Some i ≡ position (bytes_eq name) (loaded_names state)
    → pending_in state name ≡ 0 → ForSome (live_session_at state i) (λ session. session.pending ≡ 0)
settled_at state name i found none session there =
    let at_place : live_session state name ≡ live_session_at state i =
    subst (λ (index : Option ℕ). live_session state name ≡ option_and_then (live_session_at state) index) (sym found)
    (held_under state name) in
    pending-of state name session (at_place ∙ there) none

-- what is true of a session as its present step began is true of the one that is meant, where it has no pending steps
pub settled : (entry : Option LiveSession) (P : Option Session → Type 0) → ForSome entry (λ session. session.pending ≡ 0)
    → IfSome entry (λ session. P (Some (as_session session))) → IfSome entry (λ session. P (Some (settled_session session)))
settled None P none holds = tt
settled (Some session) P none holds =
    subst (λ (value : Session). P (Some value)) (sym (meant-settled session (none session refl))) holds

-- where a name has no place, no session has it
pub no_name : (state : UserState) (name : List ℕ) → None ≡ position (bytes_eq name) (loaded_names state)
    → value_named name (user_of state).sessions ≡ None
no_name state name lost = named-index state name None lost

-- a line after the first
after_first_line : (line : List ℕ) (lines : List (List ℕ)) (k : ℕ) → 1 ≤ k
    → slice_get (line ∷ lines) k ≡ slice_get lines (k - 1)
after_first_line line lines zero some = absurd (omega arith)
after_first_line line lines (suc k) some = ap (slice_get lines) (omega arith)

after_third_line : (a b c : List ℕ) (lines : List (List ℕ)) (k : ℕ) → 3 ≤ k
    → slice_get (a ∷ b ∷ c ∷ lines) k ≡ slice_get lines (k - 3)
after_third_line a b c lines zero some = absurd (omega arith)
after_third_line a b c lines (suc zero) some = absurd (omega arith)
after_third_line a b c lines (suc (suc zero)) some = absurd (omega arith)
after_third_line a b c lines (suc (suc (suc k))) some = ap (slice_get lines) (omega arith)

-- a line in the list of all sessions
pub listed_line : (state : UserState) (k : ℕ) (head line : List ℕ) → 1 ≤ k
    → Some line ≡ option_map session_line (slice_get (user_of state).sessions (k - 1))
    → Some line ≡ slice_get (head ∷ map session_line (user_of state).sessions) k
listed_line state k head line some is_line =
    is_line ∙ sym (slice_get-map session_line (user_of state).sessions (k - 1))
    ∙ sym (after_first_line head (map session_line (user_of state).sessions) k some)

-- a line in the list of what is saved in a session
pub saved_line : (entry : Option LiveSession) (saved : List (List ℕ × Simulation)) (k : ℕ)
    (head : LiveSession → List ℕ) (line : List ℕ) → 1 ≤ k
    → option_map (λ session. session.saved) entry ≡ Some saved
    → Some line ≡ option_map branch_line (slice_get saved (k - 1))
    → IfSome entry (λ session. Some line ≡ slice_get (head session ∷ map branch_line session.saved) k)
saved_line None saved k head line some is_saved is_line = tt
saved_line (Some session) saved k head line some is_saved is_line =
    let e : session.saved ≡ saved = cc in
    subst (λ (v : List (List ℕ × Simulation)). Some line ≡ slice_get (head session ∷ map branch_line v) k) (sym e)
    (is_line ∙ sym (slice_get-map branch_line saved (k - 1))
    ∙ sym (after_first_line (head session) (map branch_line saved) k some))

-- a line of an atom in a frame
pub dumped_atom : (entry : Option LiveSession) (k : ℕ) (a b c : LiveSession → List ℕ) (line : Option (List ℕ)) → 3 ≤ k
    → IfSome entry (λ session. line ≡ slice_get (atom_lines (edge_of session.live.composition.mix) session.symbols session.live.sim.cur) (k - 3))
    → IfSome entry (λ session. line ≡ slice_get (a session ∷ b session ∷ c session
    ∷ atom_lines (edge_of session.live.composition.mix) session.symbols session.live.sim.cur) k)
dumped_atom None k a b c line some is_line = tt
dumped_atom (Some session) k a b c line some is_line =
    is_line ∙ sym (after_third_line (a session) (b session) (c session)
    (atom_lines (edge_of session.live.composition.mix) session.symbols session.live.sim.cur) k some)

-- past the last atom of a session there is none
pub past_last_atom : (entry : Option LiveSession) (live : Sim) (t : ℕ) → option_map (λ session. session.live) entry ≡ Some live
    → length live.sim.cur ≤ t
    → IfSome entry (λ session. None ≡ slice_get (atom_lines (edge_of session.live.composition.mix) session.symbols session.live.sim.cur) t)
past_last_atom None live t is_live past = tt
past_last_atom (Some session) live t is_live past =
    let l : session.live ≡ live = cc in
    sym (atom_lines-past (edge_of session.live.composition.mix) session.symbols session.live.sim.cur t (rw l past))
