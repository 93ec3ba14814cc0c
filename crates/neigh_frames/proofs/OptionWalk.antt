-- A walk over the options of a message.
use Rattle.std.proofs.Common.{◌≡◌, ◌≢◌, ℕ, zero, suc, Bool, true, false, ◌==◌, ◌&&◌, ◌||◌, cond, ◌*◌, ◌-◌, ◌<◌, ◌≤◌, ◌⊎◌, inl}
use Rattle.std.proofs.Common.{inr, List, [], ◌∷◌, length, get_or, take, drop, Option, Some, None, refl, sym, ◌∙◌, ap, arith}
use Rattle.std.proofs.lemmas.List.{take_all, take_rest}
use Rattle.std.specs.List.{list_any, find}
use Rattle.std.specs.Option.{option_map, option_or}
use Rattle.neigh_frames.specs.declared.options.Sender.{Sender}
use Rattle.neigh_frames.specs.Options.{NdpOption, states_source, states_hardware, options_behind, options_of, with_option, with_options}

-- The bytes of an option that has begun are ignored.
pub options_behind-skip : (left : ℕ) (bytes : List ℕ) → left ≤ length bytes → options_behind left bytes ≡ options_of (drop left bytes)
options_behind-skip zero bytes there = refl
options_behind-skip (suc left) [] there = absurd (omega arith)
options_behind-skip (suc left) (byte ∷ rest) there = options_behind-skip left rest (omega arith)

-- An option that doesn't end in the bytes.
pub options_behind-short : (left : ℕ) (bytes : List ℕ) → length bytes < left → options_behind left bytes ≡ None
options_behind-short zero bytes short = absurd (omega arith)
options_behind-short (suc left) [] short = refl
options_behind-short (suc left) (byte ∷ rest) short = options_behind-short left rest (omega arith)

-- what is known of the sender, and what the bytes still say
abbrev pub told : Sender → List ℕ → Option Sender
told sender bytes = option_map (with_options sender) (options_of bytes)

step : (is long stated any : Bool) (hardware : Option (List ℕ)) (option : NdpOption) (found : Option NdpOption)
    → ◌≡◌ {A =
    Sender} (record { stated = stated || (is || any); hardware = option_or hardware (option_map (λ o. o.body) (cond (is && long) (Some option) found)) })
    (record {
      stated = (cond {A = Sender} is (record { stated = true; hardware = option_or hardware (cond long (Some option.body) None) })
          (record { stated = stated; hardware = hardware })).stated || any;
      hardware = option_or (cond {A = Sender} is (record { stated = true; hardware = option_or hardware (cond long (Some option.body) None) })
          (record { stated = stated; hardware = hardware })).hardware (option_map (λ o. o.body) found);
    })
step false long stated any hardware option found = refl
step true true true any None option found = refl
step true true true any (Some h) option found = refl
step true true false any None option found = refl
step true true false any (Some h) option found = refl
step true false true any None option found = refl
step true false true any (Some h) option found = refl
step true false false any None option found = refl
step true false false any (Some h) option found = refl

with_options-cons : (sender : Sender) (option : NdpOption) (options : List NdpOption)
    → with_options sender (option ∷ options) ≡ with_options (with_option sender option.kind option.body) options
with_options-cons sender option options =
    step (option.kind == 1) (length option.body == 6) sender.stated (list_any states_source options) sender.hardware option (find states_hardware options)

with_front : (sender : Sender) (option : NdpOption) (read : Option (List NdpOption))
    → option_map (with_options sender) (option_map (λ options. option ∷ options) read)
    ≡ option_map (with_options (with_option sender option.kind option.body)) read
with_front sender option None = refl
with_front sender option (Some options) = ap Some (with_options-cons sender option options)

-- One option more.
pub told-option : (sender : Sender) (kind units : ℕ) (rest : List ℕ) → units * 8 ≢ 0 → units * 8 - 2 ≤ length rest
    → told (with_option sender kind (take (units * 8 - 2) rest)) (drop (units * 8 - 2) rest) ≡ told sender (kind ∷ units ∷ rest)
told-option sender kind zero rest some whole = absurd (omega arith)
told-option sender kind (suc units) rest some whole =
    sym (with_front sender (record { kind = kind; body = take (suc units * 8 - 2) rest }) (options_of (drop (suc units * 8 - 2) rest)))
    ∙ ap (λ read. option_map (with_options sender) (option_map (λ options. record { kind = kind; body = take (suc units * 8 - 2) rest } ∷ options) read))
    (sym (options_behind-skip (suc units * 8 - 2) rest whole))

-- The same, of the bytes as the code cuts them.
pub told-next : (sender : Sender) (bytes : List ℕ) → 2 ≤ length bytes → get_or bytes 1 0 * 8 ≢ 0 → get_or bytes 1 0 * 8 - 2 ≤ length bytes - 2
    → let body = take (length bytes - 2) (drop 2 bytes) in
    let size = get_or bytes 1 0 * 8 - 2 in
    told (with_option sender (get_or bytes 0 0) (take size body)) (take (length body - size) (drop size body)) ≡ told sender bytes
told-next sender [] few some whole = absurd (omega arith)
told-next sender (kind ∷ []) few some whole = absurd (omega arith)
told-next sender (kind ∷ units ∷ rest) few some whole =
    rw (take_all (length (kind ∷ units ∷ rest) - 2) rest (omega arith), take_rest rest (units * 8 - 2)) (told-option sender kind units rest some (omega arith))

-- No option begins so.
pub told-broken : (sender : Sender) (bytes : List ℕ) → 2 ≤ length bytes → (get_or bytes 1 0 * 8 ≡ 0) ⊎ (length bytes - 2 < get_or bytes 1 0 * 8 - 2)
    → told sender bytes ≡ None
told-broken sender [] few broken = absurd (omega arith)
told-broken sender (kind ∷ []) few broken = absurd (omega arith)
told-broken sender (kind ∷ zero ∷ rest) few broken = refl
told-broken sender (kind ∷ suc units ∷ rest) few (inl none) = absurd (omega arith)
told-broken sender (kind ∷ suc units ∷ rest) few (inr short) =
    rw (options_behind-short (suc units * 8 - 2) rest (omega arith)) refl
