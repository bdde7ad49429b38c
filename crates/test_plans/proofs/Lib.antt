mod ChipsMayDraw
