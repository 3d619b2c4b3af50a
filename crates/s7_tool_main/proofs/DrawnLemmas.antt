-- Lines that are drawn: those of a list of numbers, and those from x to x.
use Rattle.std.proofs.Common.{◌≡◌, ◌∙◌, ◌+◌, ◌-◌, ◌*◌, ◌/◌, ◌%◌, ◌≤◌, ℕ, zero, suc, Bool, true, false, cond, refl, sym, ap}
use Rattle.std.proofs.Common.{arith, subst, List, [], ◌∷◌, ◌++◌, append_assoc, length, map, take, drop, replicate}
use Rattle.std.specs.Prelude.{◌==◌, slice_index}
use Rattle.std.specs.List.{AllByRecursion}
use Rattle.std.proofs.lemmas.Bool.{ne_eqb}
use Rattle.std.proofs.Math.Seq.{drop-append_seam, take-append_seam}
use Rattle.s7_schedule.specs.Drawing.{drawn_from, first_x, next_x}
use Rattle.s7_item.specs.declared.item.Item.{Item}
use Rattle.s7_dialogue.specs.declared.job.Job.{Job}
use Rattle.s7_dialogue.specs.declared.job.Job.TheVariants as job
use Rattle.s7_rig.specs.Scripts.{BeginsWell, IsNoConnect, NoneConnects, goes_on}
use Rattle.s7_tool_main.specs.Drawn.{block_item, drawn, flags_item, kind_of, line_by, lines_of, made_scripts}
use Rattle.s7_tool_main.specs.Drawn.{script_of, script_with}
use Rattle.s7_tool_main.specs.Drawing.{after_line, after_lines, line_at, lines_at, script_at, scripts_at, x_after}

-- ---- lines of a list of numbers

-- the lines behind one that took five numbers, or four
lines_behind : (b : Bool) (n k x : ℕ) → lines_of n (drawn_from (x_after 5 x) k) ≡ lines_at n (x_after 5 x)
    → lines_of n (drawn_from (x_after 4 x) (suc k)) ≡ lines_at n (x_after 4 x)
    → lines_of n (drop (cond b 5 4) (drawn_from x (suc (suc (suc (suc (suc k)))))))
    ≡ lines_at n (cond b (x_after 5 x) (x_after 4 x))
unfolding drawn_from x_after
lines_behind true n k x five four = five
lines_behind false n k x five four = four

-- enough numbers give the lines that are drawn from x on
pub lines_drawn : (n m x : ℕ) → 5 * n ≤ m → lines_of n (drawn_from x m) ≡ lines_at n x
unfolding lines_of lines_at drawn_from line_at after_line x_after
lines_drawn zero m x enough = refl
lines_drawn (suc n) m x enough =
    let k = m - 5 in
    let x4 = next_x (next_x (next_x (next_x x))) in
    let five : m ≡ suc (suc (suc (suc (suc k)))) = omega arith in
    let behind_five = lines_drawn n k (next_x x4) (omega arith) in
    let behind_four = lines_drawn n (suc k) x4 (omega arith) in
    let behind = lines_behind (kind_of (drawn_from x 5) == 2) n k x behind_five behind_four in
    rw five (ap (λ js. line_at x ∷ js) behind)

-- ---- one line

-- what the line is, by its kind
pub line_write : (kind block start count octet : ℕ) (item : Item) → item ≡ block_item block start count → kind ≡ 2
    → job.WriteArea item (replicate item.count octet) ≡ line_by kind block start count octet
line_write kind block start count octet item is two = rw (two, is) refl

pub line_two : (kind block start count octet : ℕ) (item : Item) → item ≡ block_item block start (1 + count % 64)
    → kind ≡ 3 → job.ReadMany (flags_item ∷ item ∷ []) ≡ line_by kind block start count octet
line_two kind block start count octet item is three = rw (three, is) refl

pub line_read : (kind block start count octet : ℕ) (item : Item) → item ≡ block_item block start count
    → (kind ≡ 2 → ⊥) → (kind ≡ 3 → ⊥) → job.ReadArea item ≡ line_by kind block start count octet
line_read kind block start count octet item is no_two no_three =
    let two : (kind == 2) ≡ false = ne_eqb kind 2 no_two in
    let three : (kind == 3) ≡ false = ne_eqb kind 3 no_three in
    rw (two, three, is) refl

-- the line of the numbers that are drawn from x on, by these
pub line_drawn : (x x1 x2 x3 x4 kind block start count octet : ℕ)
    → x1 ≡ next_x x → x2 ≡ next_x x1 → x3 ≡ next_x x2 → x4 ≡ next_x x3
    → kind ≡ next_x x / 65536 % 4 → block ≡ next_x x1 / 65536 % 4 → start ≡ next_x x2 / 65536 % 3000
    → count ≡ next_x x3 / 65536 % 1000 → octet ≡ next_x x4 / 65536 % 256
    → line_by kind (1 + block) start (1 + count) octet ≡ line_at x
unfolding line_at drawn_from
line_drawn x x1 x2 x3 x4 kind block start count octet e1 e2 e3 e4 k b s c o =
    rw (k, b, s, c, o, e4, e3, e2, e1) refl

-- x after it
pub after_write : (x x1 x2 x3 x4 x5 kind : ℕ)
    → x1 ≡ next_x x → x2 ≡ next_x x1 → x3 ≡ next_x x2 → x4 ≡ next_x x3 → x5 ≡ next_x x4
    → kind ≡ next_x x / 65536 % 4 → kind ≡ 2 → x5 ≡ after_line x
unfolding after_line drawn_from x_after
after_write x x1 x2 x3 x4 x5 kind e1 e2 e3 e4 e5 k two =
    let is : next_x x / 65536 % 4 ≡ 2 = sym k ∙ two in
    rw is (rw (e5, e4, e3, e2, e1) refl)

pub after_read : (x x1 x2 x3 x4 kind : ℕ) → x1 ≡ next_x x → x2 ≡ next_x x1 → x3 ≡ next_x x2 → x4 ≡ next_x x3
    → kind ≡ next_x x / 65536 % 4 → (kind ≡ 2 → ⊥) → x4 ≡ after_line x
unfolding after_line drawn_from x_after
after_read x x1 x2 x3 x4 kind e1 e2 e3 e4 k other =
    let is : (next_x x / 65536 % 4 == 2) ≡ false = ne_eqb _ 2 (λ e. other (k ∙ e)) in
    rw is (rw (e4, e3, e2, e1) refl)

-- ---- one after another

-- what is drawn in order, where one more is drawn and the others are left
module _ {A : Type 0} (drawn_at : ℕ → ℕ → List A) (one_at : ℕ → A) (after : ℕ → ℕ)
    (more : (n x : ℕ) → drawn_at (suc n) x ≡ one_at x ∷ drawn_at n (after x)) where
  pub one_more : (n x x' left : ℕ) (old new all : List A) (one : A) → left ≡ suc n → x' ≡ after x → one ≡ one_at x
      → new ≡ old ++ one ∷ [] → old ++ drawn_at left x ≡ all → new ++ drawn_at n x' ≡ all
  one_more n x x' left old new all one is_left is_x is_one pushed so_far =
      rw (pushed, is_one, is_x) (append_assoc old (one_at x ∷ []) (drawn_at n (after x))
      ∙ ap (λ xs. old ++ xs) (sym (more n x) ∙ ap (λ k. drawn_at k x) (sym is_left)) ∙ so_far)

-- ---- all lines

pub lines_more : (n x : ℕ) → lines_at (suc n) x ≡ line_at x ∷ lines_at n (after_line x)
unfolding lines_at
lines_more n x = refl

pub after_more : (n x : ℕ) → after_lines (suc n) x ≡ after_lines n (after_line x)
unfolding after_lines
after_more n x = refl

pub lines_none : (n x : ℕ) → n ≡ 0 → lines_at n x ≡ []
unfolding lines_at
lines_none n x e = rw e refl

pub after_none : (n x : ℕ) → n ≡ 0 → after_lines n x ≡ x
unfolding after_lines
after_none n x e = rw e refl

lines_both : (a b x : ℕ) → lines_at (a + b) x ≡ lines_at a x ++ lines_at b (after_lines a x)
unfolding lines_at after_lines
lines_both zero b x = let e : zero + b ≡ b = omega arith in rw e refl
lines_both (suc a) b x =
    let e : suc a + b ≡ suc (a + b) = omega arith in
    rw e (ap (λ js. line_at x ∷ js) (lines_both a b (after_line x)))

after_both : (a b x : ℕ) → after_lines (a + b) x ≡ after_lines b (after_lines a x)
unfolding after_lines
after_both zero b x = let e : zero + b ≡ b = omega arith in rw e refl
after_both (suc a) b x = let e : suc a + b ≡ suc (a + b) = omega arith in rw e (after_both a b (after_line x))

length-lines : (n x : ℕ) → length (lines_at n x) ≡ n
unfolding lines_at
length-lines zero x = refl
length-lines (suc n) x = let e = length-lines n (after_line x) in omega (arith, e)

-- a part of the lines
part : (a n b x : ℕ) → take n (drop a (lines_at (a + (n + b)) x)) ≡ lines_at n (after_lines a x)
part a n b x =
    let y = after_lines a x in
    ap (λ js. take n (drop a js)) (lines_both a (n + b) x)
    ∙ ap (take n) (dropped (lines_at a x) a (lines_at (n + b) y) (length-lines a x))
    ∙ ap (take n) (lines_both n b y)
    ∙ taken (lines_at n y) n (lines_at b (after_lines n y)) (length-lines n y)
  where
    dropped : (xs : List Job) (k : ℕ) (ys : List Job) → length xs ≡ k → drop k (xs ++ ys) ≡ ys
    dropped xs k ys e = rw (← e) (drop-append_seam xs ys)

    taken : (xs : List Job) (k : ℕ) (ys : List Job) → length xs ≡ k → take k (xs ++ ys) ≡ xs
    taken xs k ys e = rw (← e) (take-append_seam xs ys)

-- ---- scripts

script_is : (seed client a b y : ℕ) → a ≡ 200 * client → a + (200 + b) ≡ 800
    → after_lines a (first_x seed) ≡ y → script_at y ≡ script_of seed client
unfolding script_of
script_is seed client a b y at all ends =
    let x = first_x seed in
    let lines : lines_of 800 (drawn seed) ≡ lines_at (a + (200 + b)) x =
    lines_drawn 800 4000 x (omega arith) ∙ ap (λ n. lines_at n x) (sym all) in
    sym (ap script_with (ap (λ js. take 200 (drop (200 * client) js)) lines
    ∙ ap (λ n. take 200 (drop n (lines_at (a + (200 + b)) x))) (sym at)
    ∙ part a 200 b x ∙ ap (lines_at 200) ends))

-- the scripts of four clients, one after another
pub scripts_made : (seed : ℕ) → scripts_at 4 (first_x seed) ≡ made_scripts seed
unfolding scripts_at
scripts_made seed =
    let x = first_x seed in
    let y = after_lines 200 x in
    let twice = after_both 200 200 x in
    let thrice = after_both 200 400 x ∙ after_both 200 200 y in
    let first = script_is seed 0 0 600 x refl refl (after_none 0 x refl) in
    let second = script_is seed 1 200 400 y refl refl refl in
    let third = script_is seed 2 400 200 _ refl refl twice in
    let fourth = script_is seed 3 600 0 _ refl refl thrice in
    λ i. first i ∷ second i ∷ third i ∷ fourth i ∷ []

pub scripts_more : (n x : ℕ) → scripts_at (suc n) x ≡ script_at x ∷ scripts_at n (after_lines 200 x)
unfolding scripts_at
scripts_more n x = refl

pub scripts_none : (n x : ℕ) → n ≡ 0 → scripts_at n x ≡ []
unfolding scripts_at
scripts_none n x e = rw e refl

-- ---- no line connects

no_connect : (kind block start count octet : ℕ) → IsNoConnect (line_by kind block start count octet)
no_connect kind block start count octet = go (kind == 2) (kind == 3)
  where
    item : ℕ → Item
    item n = block_item block start n

    go : (a b : Bool) → IsNoConnect (cond a (job.WriteArea (item count) (replicate count octet))
        (cond b (job.ReadMany (flags_item ∷ item (1 + count % 64) ∷ [])) (job.ReadArea (item count))))
    go true b = tt
    go false true = tt
    go false false = tt

none_connects : (n x : ℕ) → NoneConnects (lines_at n x ++ job.Disconnect ∷ [])
unfolding lines_at line_at
none_connects zero x = (tt, tt)
none_connects (suc n) x =
    let numbers = drawn_from x 5 in
    let first = no_connect (kind_of numbers) (1 + slice_index numbers 1 % 4) (slice_index numbers 2 % 3000)
    (1 + slice_index numbers 3 % 1000) (slice_index numbers 4 % 256) in
    (first, none_connects n (after_line x))

connect_first : (n x : ℕ) → AllByRecursion BeginsWell (map goes_on (scripts_at n x))
unfolding scripts_at
connect_first zero x = tt
connect_first (suc n) x = (none_connects 200 x, connect_first n (after_lines 200 x))

pub made_connect : (seed : ℕ) → AllByRecursion BeginsWell (map goes_on (made_scripts seed))
made_connect seed =
    subst (λ scripts. AllByRecursion BeginsWell (map goes_on scripts)) (scripts_made seed)
    (connect_first 4 (seed % 2147483648))
