mod Lacking
