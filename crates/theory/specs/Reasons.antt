-- Document 01, "Why a job is sent back": the number of each word, and the two limits that its rows name. Assumes nothing.
use Rattle.std.specs.Prelude.{Bool, ◌&&◌, ℕ, leb}

-- "Done is number 0."
abbrev pub done : ℕ
done = 0

-- "n is below 2 or above 20, for the group first, then for a target"; document 02, request 11: "Sizes outside the ranges are size";
-- request 12: "An n outside 2 to 8 is size"
abbrev pub size : ℕ
size = 1

-- "target's n differs from the group's, or a push list has fewer than n - 1 bytes"; document 02, request 4: "lists of different length are fit";
-- request 6: "a lent list shorter than the listing is fit"; request 11: "lists without q × z entries are fit"; request 12: "a weight list that hasn't m entries is fit"
abbrev pub fit : ℕ
fit = 2

-- "an order record is not as described above"; document 02, request 11: "a wrong arrangement is muddle"
abbrev pub muddle : ℕ
muddle = 3

-- "two levels are equal"
abbrev pub tie : ℕ
tie = 4

-- "rank at or above n!; push place outside 2 to n; m outside 1 to n!; symbol at or above m"; document 02, request 4: "a lowest above its highest is value";
-- request 6: "A value of r above n - 1, or a list that would exceed 65,536 bytes, is value"; request 12: "an m outside 2 to 64 or above n! is value"
abbrev pub value : ℕ
value = 5

-- "top level plus the job's pushes exceeds 65,535"
abbrev pub ceiling : ℕ
ceiling = 6

-- "reading: the order's prefix has number m or higher"; document 02, request 12: "an order that starts with none of the prefixes is idle"
abbrev pub idle : ℕ
idle = 7

-- "the bench sheet is ill-formed"; document 02, request 7, of the groups on the new zero: "A count here outside its range, numbers that don't rise, or bytes after the
-- last of them, is sheet"
abbrev pub sheet : ℕ
sheet = 8

-- document 02, request 2: "9 paper, when the lent list is shorter than the sheet"
abbrev pub paper : ℕ
paper = 9

-- document 02, request 4: "10 unsure, when the condition fails"
abbrev pub unsure : ℕ
unsure = 10

-- "A group has n cells, 2 to 20"; any other n is size
abbrev pub sized : ℕ → Bool
sized n = leb 2 n && leb n 20

-- "16-bit charge levels [..] each 0 to 65,535"
abbrev pub max_level : ℕ
max_level = 65535
