use Rattle.std.proofs.Common.{◌≡◌, ◌≤◌, ◌+◌, ℕ, zero, suc, Bool, true, false, not, cond, eqb, ltb, ◌<◌, get_or, min, ◌||◌, List, [], ◌∷◌, length, map, take, drop, refl, sym, ap, subst, ◌∙◌, arith, w8, ◌%◌, ◌^◌, replicate, take-take, true≢false}
use Rattle.std.proofs.lemmas.Bool.{or_parts}
use Rattle.std.proofs.lemmas.Simd.{zip2_splat, zip2_of_maps, length-chunk, bitmask_splat, first_set_mask_l, trailing_mask_l}
use Rattle.std.proofs.lemmas.List.{get_or-take, get_or-drop}
use Rattle.std.proofs.lemmas.List.Sums.{prefix_len_stops}
use Rattle.std.specs.List.{prefix_len}
use lib.Bits.{bit_or}
use lib.Count.{count_trailing_zeros}
use Rattle.std.specs.Int.Count.{trailing_of_zero}
use lib.Lanes.{chunk, mask_l, top, zip2}
use Rattle.enumset.proofs.set_json.scan.plain_before.Goals as goal
use Rattle.enumset.specs.JsonPlain.{IsPlain}

abbrev is_special : ℕ → Bool
is_special x = (eqb x 34 || eqb x 92) || ltb x 32

either : (a b : Bool) → bit_or (cond a 255 0) (cond b 255 0) ≡ cond (a || b) 255 0
either true true = refl
either true false = refl
either false true = refl
either false false = refl

step : (p : Bool) (n r : ℕ) → suc r ≤ cond (not p) (1 + n) 0 → (p ≡ false) × (r ≤ n)
step false n r le = (refl, omega arith)
step true n r le = absurd (omega arith)

plain_run : (v : List ℕ) (r : ℕ) → r ≤ prefix_len (λ x. not (is_special x)) v → IsPlain (take r v)
plain_run v zero le = tt
plain_run [] (suc r) le = tt
plain_run (x ∷ v) (suc r) le =
    let (none, rest) = step (is_special x) (prefix_len (λ x. not (is_special x)) v) r le in
    let (text, control) = or_parts _ _ none in
    let (quote, slash) = or_parts _ _ text in
    ((quote, slash, control), plain_run v r rest)

-- the mask of the bytes that a test finds, which are 255 each
abbrev found : (ℕ → ℕ → Bool) → List ℕ → ℕ → ℕ → List ℕ
found t v n y = zip2 (λ a b. cond (t a b) 255 0) v (replicate n y)

mask : (v : List ℕ) (n : ℕ) → length v ≡ n → n ≤ 64 → mask_l (map (top 7) (zip2 bit_or (zip2 bit_or (found eqb v n 34) (found eqb v n 92)) (found ltb v n 32))) % 2 ^ 64 ≡ mask_l (map is_special v)
mask v n long few =
    let lanes = zip2_of_maps bit_or _ _ v (zip2_of_maps bit_or _ _ v (zip2_splat (λ a b. cond (eqb a b) 255 0) v n 34 long) (zip2_splat (λ a b. cond (eqb a b) 255 0) v n 92 long)) (zip2_splat (λ a b. cond (ltb a b) 255 0) v n 32 long)
    ∙ (λ j. map (λ x. bit_or (either (eqb x 34) (eqb x 92) j) (cond (ltb x 32) 255 0)) v) ∙ (λ j. map (λ x. either (eqb x 34 || eqb x 92) (ltb x 32) j) v) ∙ sym (zip2_splat (λ a b. cond (is_special a) 255 0) v n 0 long) in
    ap (λ l. mask_l (map (top 7) l) % 2 ^ 64) lanes ∙ bitmask_splat w8 (λ a b. is_special a) v n 0 long few

-- at most as many bytes as there are before the lowest bit
before : (v : List ℕ) (n m r : ℕ) → length v ≡ n → n ≤ 64 → m ≡ mask_l (map is_special v) → r ≤ n → r ≤ count_trailing_zeros 64 m → r ≤ prefix_len (λ x. not (is_special x)) v
before v n m r long few is all low = grind (arith, first_set_mask_l is_special v n long few, is, all, low)

pub returns-clause-plain : goal.returns-clause-plain
returns-clause-plain g c =
    let n = g.row.N in
    let v = chunk c.args.begin n c.args.bytes.now in
    let long = length-chunk c.args.begin n c.args.bytes.now c.requires.room in
    let all : c.min.result ≤ n = omega arith in
    subst IsPlain (take-take c.min.result n (drop c.args.begin c.args.bytes.now) all) (plain_run v c.min.result (before v n _ c.min.result long (omega arith) (mask v n long (omega arith)) all (omega arith)))

no_false : (b : Bool) → not b ≡ false → b ≡ true
no_false true e = refl
no_false false e = sym e

-- the byte at the lowest bit is special
special : (v : List ℕ) (n m r : ℕ) → length v ≡ n → n ≤ 64 → m ≡ mask_l (map is_special v) → r ≡ min n (count_trailing_zeros 64 m) → r < n → is_special (get_or v r 0) ≡ true
special v n m r long few is least under = at m refl
  where
    at : (k : ℕ) → m ≡ k → is_special (get_or v r 0) ≡ true
    at zero e = absurd (omega (arith, least, under, few, ap (count_trailing_zeros 64) e, trailing_of_zero 64))
    at (suc k) e =
        let some : 0 < mask_l (map is_special v) = omega (arith, e, is) in
        let lowest = trailing_mask_l is_special 64 v (omega (arith, long, few)) some in
        let place : prefix_len (λ x. not (is_special x)) v ≡ r = omega (arith, lowest, ap (count_trailing_zeros 64) is, least, under) in
        no_false _ (subst (λ i. not (is_special (get_or v i 0)) ≡ false) place (prefix_len_stops (λ x. not (is_special x)) v 0 (omega (arith, place, under, long))))

pub returns-clause-most : goal.returns-clause-most
returns-clause-most g c = λ under (quote, slash, control).
    let n = g.row.N in
    let xs = c.args.bytes.now in
    let r = c.min.result in
    let v = chunk c.args.begin n xs in
    let long = length-chunk c.args.begin n xs c.requires.room in
    let here = special v n _ r long (omega arith) (mask v n long (omega arith)) c.min.ensures under in
    let byte : get_or v r 0 ≡ get_or xs (c.args.begin + r) 0 = get_or-take n (drop c.args.begin xs) r 0 under ∙ get_or-drop c.args.begin xs r 0 in
    true≢false (sym here ∙ ap is_special byte ∙ (λ j. (quote j || slash j) || control j))
