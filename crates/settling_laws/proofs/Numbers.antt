-- The number of steps that are left falls.
use Rattle.std.proofs.Common.{◌≡◌, ℕ, ◌+◌, ◌*◌, ◌≤◌, ◌<◌, arith}
use Rattle.std.proofs.lemmas.Nat.{mul-le}

distribute : (a b c : ℕ) → a * (b + c) ≡ a * b + a * c
distribute a b c = grind arith

-- for each of so many there are fewer
pub fewer-each : (held weight held' weight' : ℕ) → held' ≤ held → weight' ≤ weight → held' * weight' ≤ held * weight
fewer-each held weight held' weight' h w = mul-le held' weight' held weight h w

-- by one
pub one-fewer : (held weight held' weight' : ℕ) → held' ≤ held → weight' + 1 ≤ weight → held' * weight' + held' ≤ held * weight
one-fewer held weight held' weight' h w =
    let a : held' * (weight' + 1) ≤ held * weight = mul-le held' (weight' + 1) held weight h w in
    let b : held' * (weight' + 1) ≡ held' * weight' + held' * 1 = distribute held' weight' 1 in
    omega (arith, a, b)

-- by two
pub two-fewer : (held weight held' weight' : ℕ) → held' ≤ held → weight' + 2 ≤ weight → held' * weight' + 2 * held' ≤ held * weight
two-fewer held weight held' weight' h w =
    let a : held' * (weight' + 2) ≤ held * weight = mul-le held' (weight' + 2) held weight h w in
    let b : held' * (weight' + 2) ≡ held' * weight' + held' * 2 = distribute held' weight' 2 in
    omega (arith, a, b)

-- an event is taken
pub fall-taken : (all turns pending all' turns' pending' : ℕ) → all' + turns' ≤ all + turns → pending' + 1 ≤ pending
    → 2 * (all' + turns') + pending' < 2 * (all + turns) + pending
fall-taken all turns pending all' turns' pending' a p = omega arith

-- a turn is made, which may leave one event pending more
pub fall-turned : (all turns pending all' turns' pending' : ℕ) → all' + turns' + 1 ≤ all + turns → pending' ≤ pending + 1
    → 2 * (all' + turns') + pending' < 2 * (all + turns) + pending
fall-turned all turns pending all' turns' pending' a p = omega arith

spread : (all late doubts : ℕ) → all * (4 * late + 2 * doubts + 5) ≡ 2 * (all * (2 * late + doubts)) + 5 * all
spread all late doubts = grind arith

-- how many there are at most
pub most : (all late doubts held late' turns pending : ℕ) → held ≤ all → late' ≤ late → turns ≤ 2 * all → pending ≤ all
    → 2 * (held * (2 * late' + doubts) + turns) + pending ≤ all * (4 * late + 2 * doubts + 5)
most all late doubts held late' turns pending h l t p =
    let a : held * (2 * late' + doubts) ≤ all * (2 * late + doubts) = fewer-each all (2 * late + doubts) held (2 * late' + doubts) h (omega arith) in
    let b = spread all late doubts in
    omega (arith, a, b)
