-- A sixth table of examples: files, byte by byte.
use Rattle.std.specs.Prelude.{ℕ, zero, suc, ◌+◌, ◌/◌, ◌%◌, ◌^◌, ◌<◌, ◌≤◌, ◌≡◌, refl, length, replicate}
use mathlib.Core.List.{List, [], ◌∷◌, ◌++◌, map, flat_map, flatten}
use Rattle.rules.specs.Lists.{sum, written}
use Rattle.rules.specs.Piece.{Piece, sizes_agree, well_formed, word}
use Rattle.rules.specs.Refusals.{Result, refused, given as answered, unless, writes, event_refusals, piece_refusals}
use Rattle.rules.specs.File.{number_in, bytes_of, data_byte, channel_message, meta_fits, meta_message, system_message, message, timed_message, events_in}
use Rattle.rules.specs.File.{chunk, tracks_in, header, behind, meta_word, file_refusals}
use Rattle.rules.specs.Calls.{PieceSize, read_size_call, read_call}
use Rattle.rules.specs.Examples.{Row, row, one, given, wanted}
use Rattle.rules.specs.RefusalExamples.{number_of}

-- ---- how rows are written

-- a number as so many bytes, most significant first
unfoldable pub hex : ℕ → ℕ → List ℕ
hex zero v = []
hex (suc n) v = v / 0x100 ^ n % 0x100 ∷ hex n v

-- a chunk: four letters, the length, the bytes
abbrev pub chunk_of : ℕ → List ℕ → List ℕ
chunk_of letters bs = hex 4 letters ++ (hex 4 (length bs) ++ bs)

-- MThd: format, count of tracks, division
abbrev pub head : ℕ → ℕ → ℕ → List ℕ
head format count division = chunk_of 0x4d546864 (hex 2 format ++ (hex 2 count ++ hex 2 division))

-- MTrk, its bytes as they stand
abbrev pub track : List ℕ → List ℕ
track bs = chunk_of 0x4d54726b bs

-- End of Track after delta 0, and its word
abbrev pub ending : List ℕ
ending = hex 4 0x00ff2f00

abbrev pub end : ℕ
end = word 6 0 0 0

-- a track of nothing else, and a chunk of another kind
abbrev pub empty : List ℕ
empty = track ending

abbrev pub alien : List ℕ → List ℕ
alien bs = chunk_of 0x41424344 bs

-- a file of one track
abbrev pub alone : List ℕ → List ℕ
alone bs = head 0 1 96 ++ track bs

-- what is read of a file: sizes, deltas, words; or its number
abbrev pub told : Result Piece → List ℕ
told (refused n) = n ∷ []
told (answered x) = x.sizes ++ (x.deltas ++ x.words)

abbrev pub file : List ℕ → List ℕ
file bs = told (read_call bs 99 99 99)

-- its number alone, 0 where it is read
abbrev pub number : List ℕ → ℕ
number bs = number_of (read_size_call bs)

-- the words of a track's events, End of Track added; or the file's number
abbrev pub words_told : Result Piece → List ℕ
words_told (refused n) = n ∷ []
words_told (answered x) = x.words

abbrev pub events : List ℕ → List ℕ
events bs = words_told (read_call (alone (bs ++ ending)) 99 99 99)

-- the same of one event after delta 0: so many bytes
abbrev pub event : ℕ → ℕ → List ℕ
event n v = events (0 ∷ hex n v)

-- End of Track after a delta
abbrev pub delta_told : Result Piece → List ℕ
delta_told (refused n) = n ∷ []
delta_told (answered x) = x.deltas

abbrev pub delta : ℕ → ℕ → List ℕ
delta n v = delta_told (read_call (alone (hex n v ++ hex 3 0xff2f00)) 99 99 99)

-- sizes and events that are answered
abbrev pub size_told : Result PieceSize → List ℕ
size_told (refused n) = n ∷ []
size_told (answered s) = s.sizes ∷ s.events ∷ []

-- what outputs of 7, 8, 9, 10 hold after the call
abbrev pub left : (Piece → List ℕ) → Result Piece → List ℕ
left part r = written (writes part r) (7 ∷ 8 ∷ 9 ∷ 10 ∷ [])

-- ---- the standard's two files

abbrev pub standard_zero : List ℕ
standard_zero =
    hex 14 0x4d546864_00000006_0000_0001_0060
    ++ (hex 8 0x4d54726b_0000003b
    ++ (hex 15 0x00ff580404021808_00ff510307a120
    ++ (hex 9 0x00c005_00c12e_00c246
    ++ (hex 15 0x00923060_003c60_60914340_60904c20
    ++ (hex 20 0x8140823040_003c40_00814340_00804c40_00ff2f00)))))

abbrev pub standard_one : List ℕ
standard_one =
    hex 14 0x4d546864_00000006_0001_0004_0060
    ++ (hex 28 0x4d54726b_00000014_00ff580404021808_00ff510307a120_8300ff2f00
    ++ (hex 24 0x4d54726b_00000010_00c005_8140904c20_81404c00_00ff2f00
    ++ (hex 23 0x4d54726b_0000000f_00c12e_60914340_82204300_00ff2f00
    ++ (hex 29 0x4d54726b_00000015_00c246_00923060_003c60_83003000_003c00_00ff2f00))))

pub files : List Row
files =
    row (file standard_zero)
    (flatten
    ((96 ∷ 1 ∷ 14 ∷ [])
    ∷ (0 ∷ 0 ∷ 0 ∷ 0 ∷ 0 ∷ 0 ∷ 0 ∷ 96 ∷ 96 ∷ 192 ∷ 0 ∷ 0 ∷ 0 ∷ 0 ∷ [])
    ∷ (word 3 4 2 0 ∷ word 2 7 161 32 ∷ word 12 0 5 0 ∷ word 12 1 46 0 ∷ word 12 2 70 0 ∷ word 9 2 48 96 ∷ word 9 2 60 96 ∷ word 9 1 67 64 ∷ [])
    ∷ (word 9 0 76 32 ∷ word 8 2 48 64 ∷ word 8 2 60 64 ∷ word 8 1 67 64 ∷ word 8 0 76 64 ∷ end ∷ [])
    ∷ []))
    ∷ row (file standard_one)
    (flatten
    ((96 ∷ 4 ∷ 3 ∷ 4 ∷ 4 ∷ 6 ∷ [])
    ∷ (0 ∷ 0 ∷ 384 ∷ 0 ∷ 192 ∷ 192 ∷ 0 ∷ 0 ∷ 96 ∷ 288 ∷ 0 ∷ 0 ∷ 0 ∷ 0 ∷ 384 ∷ 0 ∷ 0 ∷ [])
    ∷ (word 3 4 2 0 ∷ word 2 7 161 32 ∷ end ∷ word 12 0 5 0 ∷ word 9 0 76 32 ∷ word 9 0 76 0 ∷ end ∷ [])
    ∷ (word 12 1 46 0 ∷ word 9 1 67 64 ∷ word 9 1 67 0 ∷ end ∷ [])
    ∷ (word 12 2 70 0 ∷ word 9 2 48 96 ∷ word 9 2 60 96 ∷ word 9 2 48 0 ∷ word 9 2 60 0 ∷ end ∷ [])
    ∷ []))
    -- the standard's numbers of one to four bytes, as deltas
    ∷ row (delta 1 0x00 ++ (delta 1 0x40 ++ delta 1 0x7f)) (0 ∷ 0x40 ∷ 0x7f ∷ [])
    ∷ row (delta 2 0x8100 ++ (delta 2 0xc000 ++ delta 2 0xff7f)) (0x80 ∷ 0x2000 ∷ 0x3fff ∷ [])
    ∷ row (delta 3 0x818000 ++ (delta 3 0xc08000 ++ delta 3 0xffff7f)) (0x4000 ∷ 0x100000 ∷ 0x1fffff ∷ [])
    ∷ row (delta 4 0x81808000 ++ (delta 4 0xc0808000 ++ delta 4 0xffffff7f)) (0x200000 ∷ 0x8000000 ∷ 0xfffffff ∷ [])
    -- padded; a fifth byte, none at all
    ∷ row (delta 2 0x8005 ++ (delta 3 0x808005 ++ delta 4 0x80808005)) (5 ∷ 5 ∷ 5 ∷ [])
    ∷ row (delta 5 0x8080808005 ++ (delta 5 0x8180808000 ++ delta 0 0)) (12 ∷ 12 ∷ 12 ∷ [])
    ∷ row (map number (alone (hex 1 0x81) ∷ alone (hex 4 0x81808080) ∷ alone (0 ∷ []) ∷ [])) (12 ∷ 12 ∷ 12 ∷ [])
    -- lengths are such numbers: 2 in one byte, padded to four, to five; 128
    ∷ row (flatten (event 5 0xff01024142 ∷ event 8 0xff01808080024142 ∷ event 9 0xff0180808080024142 ∷ [])) (0 ∷ end ∷ 0 ∷ end ∷ 12 ∷ [])
    ∷ row (events (hex 5 0x00ff018100 ++ replicate 128 0xff)) (0 ∷ end ∷ [])
    ∷ row (flatten (event 4 0xf0800143 ∷ event 6 0xf08080800143 ∷ event 7 0xf0808080800143 ∷ [])) (word 1 0 0 0 ∷ end ∷ word 1 0 0 0 ∷ end ∷ 12 ∷ [])
    -- a length past the track's end
    ∷ row (flatten (event 3 0xff0103 ∷ event 3 0xff0104 ∷ event 3 0xff0105 ∷ event 2 0xf005 ∷ event 2 0xf705 ∷ [])) (replicate 5 12)
    -- channel messages: two data bytes, one for C and D; a velocity of 0 stays
    ∷ row (event 3 0x800000 ++ event 3 0x8f7f7f) (word 8 0 0 0 ∷ end ∷ word 8 15 127 127 ∷ end ∷ [])
    ∷ row (event 3 0x903c00 ++ event 3 0x9f3c40) (word 9 0 60 0 ∷ end ∷ word 9 15 60 64 ∷ end ∷ [])
    ∷ row (event 3 0xa13c40 ++ event 3 0xb20740) (word 10 1 60 64 ∷ end ∷ word 11 2 7 64 ∷ end ∷ [])
    ∷ row (event 2 0xc37f ++ event 2 0xdf05) (word 12 3 127 0 ∷ end ∷ word 13 15 5 0 ∷ end ∷ [])
    ∷ row (event 3 0xe00040 ++ event 3 0xef7f00) (word 14 0 0 64 ∷ end ∷ word 14 15 127 0 ∷ end ∷ [])
    -- a status inside a message, also a real-time one; a message cut short
    ∷ row (flatten (event 3 0x908040 ∷ event 3 0x903c80 ∷ event 2 0xc080 ∷ event 4 0x90f83c40 ∷ event 4 0x903cf840 ∷ [])) (replicate 5 12)
    ∷ row (map number (alone (hex 2 0x0090) ∷ alone (hex 3 0x00903c) ∷ alone (hex 2 0x00c0) ∷ [])) (12 ∷ 12 ∷ 12 ∷ [])
    -- no other status: F1 to F6 and F8 to FE, alone and with data
    ∷ row (flat_map (λ s. events (0 ∷ s ∷ [])) (map (λ n. 0xf1 + n) (0 ∷ 1 ∷ 2 ∷ 3 ∷ 4 ∷ 5 ∷ []))) (replicate 6 12)
    ∷ row (flat_map (λ s. events (0 ∷ s ∷ 0 ∷ [])) (map (λ n. 0xf1 + n) (0 ∷ 1 ∷ 2 ∷ 3 ∷ 4 ∷ 5 ∷ []))) (replicate 6 12)
    ∷ row (flat_map (λ s. events (0 ∷ s ∷ [])) (map (λ n. 0xf8 + n) (0 ∷ 1 ∷ 2 ∷ 3 ∷ 4 ∷ 5 ∷ 6 ∷ []))) (replicate 7 12)
    ∷ row (flat_map (λ s. events (0 ∷ s ∷ 0 ∷ [])) (map (λ n. 0xf8 + n) (0 ∷ 1 ∷ 2 ∷ 3 ∷ 4 ∷ 5 ∷ 6 ∷ []))) (replicate 7 12)
    -- F0 and F7: with data, ended or not, empty
    ∷ row (event 5 0xf0034312f7 ++ event 3 0xf00143) (word 1 0 0 0 ∷ end ∷ word 1 0 0 0 ∷ end ∷ [])
    ∷ row (event 4 0xf702f301 ++ (event 2 0xf000 ++ event 2 0xf700)) (word 1 0 0 0 ∷ end ∷ word 1 0 0 0 ∷ end ∷ word 1 0 0 0 ∷ end ∷ [])
    -- running status: over channel messages; cancelled by a meta, by F0, by F7; said again
    ∷ row (events (hex 10 0x00903c40_003d00_007f40)) (word 9 0 60 64 ∷ word 9 0 61 0 ∷ word 9 0 127 64 ∷ end ∷ [])
    ∷ row (events (hex 7 0x00c105_0006_0007)) (word 12 1 5 0 ∷ word 12 1 6 0 ∷ word 12 1 7 0 ∷ end ∷ [])
    ∷ row (events (hex 11 0x00903c40_00ff0100_003d40)) (12 ∷ [])
    ∷ row (events (hex 10 0x00903c40_00f000_003d40) ++ events (hex 10 0x00903c40_00f700_003d40)) (12 ∷ 12 ∷ [])
    ∷ row (events (hex 12 0x00903c40_00ff0100_00903d40)) (word 9 0 60 64 ∷ 0 ∷ word 9 0 61 64 ∷ end ∷ [])
    -- none at a track's start, nor at the next track's
    ∷ row (events (hex 3 0x003c40)) (12 ∷ [])
    ∷ one (number (head 1 2 96 ++ (track (hex 8 0x00903c40_00ff2f00) ++ track (hex 7 0x003c40_00ff2f00)))) 12
    -- metas of any type below 128, in any place, are one; 128
    ∷ row (flatten (event 3 0xff0000 ∷ event 4 0xff200105 ∷ event 3 0xff7e00 ∷ event 3 0xff7f00 ∷ [])) (0 ∷ end ∷ 0 ∷ end ∷ 0 ∷ end ∷ 0 ∷ end ∷ [])
    ∷ row (event 3 0xff8000 ++ (event 3 0xffff00 ++ event 6 0xffd10307a120)) (12 ∷ 12 ∷ 12 ∷ [])
    -- tempo, meter, key, and their lengths; a padded length; no number is given for a tempo of 0
    ∷ row (event 6 0xff510307a120 ++ event 6 0xff5103000000) (word 2 7 161 32 ∷ end ∷ word 2 0 0 0 ∷ end ∷ [])
    ∷ row (event 7 0xff51800307a120 ++ event 5 0xff5902fd01) (word 2 7 161 32 ∷ end ∷ word 4 253 1 0 ∷ end ∷ [])
    ∷ row (event 7 0xff5804ff071808 ++ event 7 0xff580406030000) (word 3 255 7 0 ∷ end ∷ word 3 6 3 0 ∷ end ∷ [])
    ∷ row (flatten (event 3 0xff5100 ∷ event 5 0xff510207a1 ∷ event 7 0xff510407a12000 ∷ [])) (12 ∷ 12 ∷ 12 ∷ [])
    ∷ row (flatten (event 3 0xff5800 ∷ event 6 0xff5803040218 ∷ event 8 0xff58050402180800 ∷ [])) (12 ∷ 12 ∷ 12 ∷ [])
    ∷ row (flatten (event 3 0xff5900 ∷ event 4 0xff590100 ∷ event 6 0xff5903000000 ∷ [])) (12 ∷ 12 ∷ 12 ∷ [])
    -- 5: a power above 7, minor above 1
    ∷ row (event 7 0xff580404081808 ++ (event 5 0xff59020701 ++ event 5 0xff59020002)) (5 ∷ word 4 7 1 0 ∷ end ∷ 5 ∷ [])
    -- in any track and any place
    ∷ row (file (head 1 2 96 ++ (empty ++ track (hex 23 0x05903c40_00ff510307a120_02ff580403021808_00ff2f00))))
    (96 ∷ 2 ∷ 1 ∷ 4 ∷ 0 ∷ 5 ∷ 0 ∷ 2 ∷ 0 ∷ end ∷ word 9 0 60 64 ∷ word 2 7 161 32 ∷ word 3 3 2 0 ∷ end ∷ [])
    -- a marker: 7F, seven bytes, ACRD1, base and spare
    ∷ row (event 10 0xff7f0741435244310304 ++ event 11 0xff7f80074143524431ff00) (word 5 3 4 0 ∷ end ∷ word 5 255 0 0 ∷ end ∷ [])
    ∷ row (event 9 0xff7f06414352443103 ++ event 11 0xff7f084143524431030400) (0 ∷ end ∷ 0 ∷ end ∷ [])
    ∷ row (flat_map (event 10) (0xff7f0740435244310304 ∷ 0xff7f0741425244310304 ∷ 0xff7f0741435144310304 ∷ [])) (0 ∷ end ∷ 0 ∷ end ∷ 0 ∷ end ∷ [])
    ∷ row (flat_map (event 10) (0xff7f0741435243310304 ∷ 0xff7f0741435244300304 ∷ 0xff7e0741435244310304 ∷ [])) (0 ∷ end ∷ 0 ∷ end ∷ 0 ∷ end ∷ [])
    -- End of Track is the last, once, of length 0; its delta stays
    ∷ row (file (alone (hex 5 0x8300ff2f00))) (96 ∷ 1 ∷ 1 ∷ 384 ∷ end ∷ [])
    ∷ row (file (alone (hex 5 0x00ff2f8000))) (96 ∷ 1 ∷ 1 ∷ 0 ∷ end ∷ [])
    ∷ row (map number (alone (ending ++ ending) ∷ alone (ending ++ (0 ∷ [])) ∷ alone (hex 5 0x00ff2f0100) ∷ [])) (12 ∷ 12 ∷ 12 ∷ [])
    ∷ row (map number (alone [] ∷ alone (hex 3 0x00c005) ∷ alone (hex 3 0x00ff2f) ∷ alone (hex 2 0x00ff) ∷ [])) (12 ∷ 12 ∷ 12 ∷ 12 ∷ [])
    -- unknown chunks are skipped, before, between and behind the tracks, without padding; nothing in them is looked at
    ∷ row (file (head 1 2 96 ++ (alien (0 ∷ []) ++ (empty ++ (alien [] ++ (empty ++ alien (hex 3 0x4d5468)))))))
    (96 ∷ 2 ∷ 1 ∷ 1 ∷ 0 ∷ 0 ∷ end ∷ end ∷ [])
    ∷ row (file (head 0 1 96 ++ (alien empty ++ (empty ++ alien (head 0 1 96))))) (96 ∷ 1 ∷ 1 ∷ 0 ∷ end ∷ [])
    ∷ row (map (λ id. number (alone ending ++ chunk_of id [])) (0x4d54726c ∷ 0x4d54726a ∷ 0x4d546865 ∷ 0x4d546863 ∷ 0x52494646 ∷ 0 ∷ [])) (replicate 6 0)
    -- a chunk past the end, 1 to 7 bytes behind the last; 8 zeros are a chunk
    ∷ row (map (λ n. number (alone ending ++ (hex 4 0x41424344 ++ (hex 4 n ++ hex 2 0)))) (2 ∷ 3 ∷ 0x102 ∷ 0x10002 ∷ 0x1000002 ∷ [])) (0 ∷ replicate 4 12)
    ∷ one (number (head 0 1 96 ++ (hex 8 0x4d54726b00000005 ++ ending))) 12
    ∷ row (map (λ n. number (alone ending ++ replicate n 0)) (0 ∷ 1 ∷ 2 ∷ 3 ∷ 4 ∷ 5 ∷ 6 ∷ 7 ∷ 8 ∷ [])) (0 ∷ 12 ∷ 12 ∷ 12 ∷ 12 ∷ 12 ∷ 12 ∷ 12 ∷ 0 ∷ [])
    -- a second header, of any length, in any place
    ∷ row (map number ((head 1 0 96 ++ head 1 0 96) ∷ (alone ending ++ head 0 1 96) ∷ (alone ending ++ chunk_of 0x4d546864 []) ∷ [])) (12 ∷ 12 ∷ 12 ∷ [])
    -- the header comes first and is whole: nothing, cut short, a track, RIFF, another chunk before it
    ∷ row (map number ([] ∷ hex 4 0x4d546864 ∷ hex 13 0x4d546864_00000006_0001_0000_00 ∷ hex 14 0x4d546864_00000007_0001_0000_0060 ∷ [])) (replicate 4 12)
    ∷ row (map number ((empty ++ head 1 1 96) ∷ empty ∷ (alien [] ++ head 1 0 96) ∷ chunk_of 0x52494646 (head 1 0 96) ∷ [])) (replicate 4 12)
    ∷ row (map (λ id. number (chunk_of id (hex 6 0x0001_0000_0060))) (0x4d546864 ∷ 0x4d546863 ∷ 0x4d546865 ∷ 0x4d54726b ∷ [])) (0 ∷ 12 ∷ 12 ∷ 12 ∷ [])
    ∷ one (number (hex 14 0x4d546864_01000006_0001_0000_0060)) 12
    -- of five bytes; of eight, read by six
    ∷ one (number (chunk_of 0x4d546864 (hex 5 0x0001000000))) 12
    ∷ row (file (chunk_of 0x4d546864 (hex 8 0x0001_0001_0060_ffff) ++ empty)) (96 ∷ 1 ∷ 1 ∷ 0 ∷ end ∷ [])
    -- 13: a format above 1, after a broken header, before all else
    ∷ row (map (λ f. number (head f 1 96 ++ empty)) (0 ∷ 1 ∷ 2 ∷ 0x100 ∷ 0xffff ∷ [])) (0 ∷ 0 ∷ 13 ∷ 13 ∷ 13 ∷ [])
    ∷ row (map number ((head 2 1 0 ++ (0 ∷ [])) ∷ (head 2 2 96 ++ empty) ∷ chunk_of 0x4d546864 (hex 5 0x0002000000) ∷ [])) (13 ∷ 13 ∷ 12 ∷ [])
    -- the tracks are as many as the header says, in format 0 one; format 1 may have none
    ∷ row (map (λ n. number (head 1 n 96 ++ (empty ++ empty))) (1 ∷ 2 ∷ 3 ∷ 0x102 ∷ [])) (12 ∷ 0 ∷ 12 ∷ 12 ∷ [])
    ∷ row (map number (head 0 0 96 ∷ (head 0 2 96 ++ (empty ++ empty)) ∷ (head 0 1 96 ++ (empty ++ empty)) ∷ [])) (12 ∷ 12 ∷ 12 ∷ [])
    ∷ row (file (head 1 0 96) ++ (number (head 1 1 96) ∷ number (head 0 1 96) ∷ [])) (96 ∷ 0 ∷ 12 ∷ 12 ∷ [])
    -- the division as it stands, timecode too; 2 where it is 0
    ∷ row (file (head 1 0 480) ++ (file (head 1 0 0xe728) ++ file (head 1 0 0xffff))) (480 ∷ 0 ∷ 59176 ∷ 0 ∷ 65535 ∷ 0 ∷ [])
    ∷ row (file (head 1 0 0) ++ file (head 0 1 0 ++ empty)) (2 ∷ 2 ∷ [])
    -- 12 before 2 and 5, wherever it stands; 2 before 5; no notes is no number
    ∷ row (map number ((head 1 0 0 ++ (0 ∷ [])) ∷ head 1 1 0 ∷ (head 0 1 0 ++ track (hex 3 0x00c005)) ∷ [])) (12 ∷ 12 ∷ 12 ∷ [])
    ∷ row (map (λ bs. number (head 1 2 96 ++ (track (hex 12 0x00ff580404081808_00ff2f00) ++ bs))) (empty ∷ track [] ∷ [])) (5 ∷ 12 ∷ [])
    ∷ one (number (head 0 1 0 ++ track (hex 12 0x00ff580404081808_00ff2f00))) 2
    -- 8: each output, after all others; as long is enough
    ∷ row (map number_of (read_call (alone ending) 3 1 1 ∷ read_call (alone ending) 2 1 1 ∷ read_call (alone ending) 3 0 1 ∷ read_call (alone ending) 3 1 0 ∷ []))
    (0 ∷ 8 ∷ 8 ∷ 8 ∷ [])
    ∷ row (map (λ bs. number_of (read_call bs 0 0 0)) ([] ∷ head 2 0 96 ∷ head 1 1 96 ∷ head 1 0 0 ∷ head 1 0 96 ∷ [])) (12 ∷ 13 ∷ 12 ∷ 2 ∷ 8 ∷ [])
    ∷ one (number_of (read_call (alone (hex 12 0x00ff580404081808_00ff2f00)) 0 0 0)) 5
    -- the sizes asked for, and what outputs hold after the call
    ∷ row (size_told (read_size_call standard_one) ++ size_told (read_size_call (head 1 0 96))) (6 ∷ 17 ∷ 2 ∷ 0 ∷ [])
    ∷ row (left (λ (x : Piece). x.sizes) (read_call (alone ending) 4 4 4)) (96 ∷ 1 ∷ 1 ∷ 10 ∷ [])
    ∷ row (left (λ (x : Piece). x.deltas) (read_call (alone (hex 4 0x05ff2f00)) 4 4 4)) (5 ∷ 8 ∷ 9 ∷ 10 ∷ [])
    ∷ row (left (λ (x : Piece). x.words) (read_call (alone ending) 4 4 4)) (end ∷ 8 ∷ 9 ∷ 10 ∷ [])
    ∷ row (left (λ (x : Piece). x.sizes) (read_call (alone ending) 4 4 0)) (7 ∷ 8 ∷ 9 ∷ 10 ∷ [])
    ∷ []

pub files_hold : given files ≡ wanted files
unfolding files hex flat_map flatten sum sizes_agree well_formed unless event_refusals piece_refusals number_in bytes_of data_byte channel_message meta_fits
    meta_message system_message message timed_message events_in chunk tracks_in header behind meta_word file_refusals
files_hold = refl

-- ---- what no row computes: files of many bytes and of many events

-- n metas of no data, and End of Track
unfoldable pub metas : ℕ → List ℕ
metas zero = ending
metas (suc n) = 0 ∷ 0xff ∷ 0x01 ∷ 0 ∷ metas n

pub record AtTheFileLimits : Type 0 where
  -- 11: exactly if there are more than 67,108,864 bytes
  pub too_large : (bs : List ℕ) → 67108864 < length bs → number bs ≡ 11
  pub not_too_large : (bs : List ℕ) → length bs ≤ 67108864 → number bs ≡ 11 → ⊥
  -- a chunk that fills the file up to there
  pub most_bytes : (n : ℕ) → n ≤ 67108842 → number (head 1 0 96 ++ alien (replicate n 0)) ≡ 0
  -- 3: more than 500,000 events, End of Track one of them
  pub many_events_lem : (n : ℕ) → 500000 ≤ n → n ≤ 16777209 → number (alone (metas n)) ≡ 3
  pub most_events : (n : ℕ) → n < 500000 → number (alone (metas n)) ≡ 0
  -- 12 before 3: a byte behind the track
  pub broken : (n : ℕ) → n ≤ 16777208 → number (alone (metas n) ++ (0 ∷ [])) ≡ 12
